-- What is shown of a question, by Keller's rules.
use Rattle.std.proofs.Common.{◌≡◌, ℕ, ◌<◌, ◌≤◌, min, Bool, true, false, leb, List, sym, refl, ap, ◌∙◌, arith}
use Rattle.std.proofs.lemmas.Bool.{leb-true, leb-false}
use Rattle.terms.specs.declared.items.Atom.{Atom}
use Rattle.terms.specs.Maps.{Map}
use Rattle.terms.proofs.Impossible.{impossible}
use Rattle.rules.specs.Questions.{Question}
use Rattle.rules.specs.Keller.{Derives, Within, def_uses}
use Rattle.rules.specs.Outcomes.{Stop, Outcome, value, stopped}
use Rattle.rules.specs.Evaluation.{outcome}
use Rattle.rules.specs.Shown.{unfinished, shows, ended, steps, settled}
use Rattle.rules.specs.Theorems.{ShownByTheRules, AllIsShownByTheRules}
use Rattle.rules.proofs.Theorems.{derivations_agree_lem, values_are_derived, derived_values_are_outcomes_lem, stops_mean_no_derivation_lem}

module _ (M : Map) (q : Question) (granted : ℕ) where
  -- nothing is settled yet
  waiting : (r : Outcome) → outcome M q ≡ r → granted < steps r → ShownByTheRules M q granted unfinished (min granted (steps r))
  waiting r e h = record {
    value_if_derived_in_time = λ v. (λ x. impossible (cc), λ x. absurd (late v x));
    unfinished_if_more_steps_are_due = (λ _. rw e h, λ _. refl);
    undefined_has_no_derivation = λ x. impossible (cc);
    circular_has_no_derivation = λ x. impossible (cc);
    uses_are_the_steps = λ v x. impossible (cc);
  }
    where
      late : (v : List Atom) → ((d : Derives M q v) × Within d × (def_uses d ≤ granted)) → ⊥
      late v x =
          let k : r ≡ value v (def_uses x.0) = sym e ∙ derived_values_are_outcomes_lem M q v x.0 x.1 in
          let m : steps r ≡ def_uses x.0 = ap steps k in
          omega arith

  with_value : (w : List Atom) (n : ℕ) → outcome M q ≡ value w n → n ≤ granted → ShownByTheRules M q granted (shows w) (min granted n)
  with_value w n e h = record {
    value_if_derived_in_time = λ v. (there v, back v);
    unfinished_if_more_steps_are_due = (
      λ x. impossible (cc),
      λ x. let m : steps (outcome M q) ≡ n = ap steps e in absurd (omega arith),
    );
    undefined_has_no_derivation = λ x. impossible (cc);
    circular_has_no_derivation = λ x. impossible (cc);
    uses_are_the_steps = λ v x u d.
        let s = values_are_derived M q w n e in
        let o = derivations_agree_lem M q u w d s.0 in
        (cc o.0, omega (arith, o.1, s.2));
  }
    where
      there : (v : List Atom) → shows w ≡ shows v → (d : Derives M q v) × Within d × (def_uses d ≤ granted)
      there v x =
          let y : w ≡ v = cc in
          let s = values_are_derived M q v n (e ∙ ap (λ a. value a n) y) in
          (s.0, s.1, omega (arith, s.2))

      back : (v : List Atom) → ((d : Derives M q v) × Within d × (def_uses d ≤ granted)) → shows w ≡ shows v
      back v x = let k : value w n ≡ value v (def_uses x.0) = sym e ∙ derived_values_are_outcomes_lem M q v x.0 x.1 in cc

  with_none : (s : Stop) (n : ℕ) → outcome M q ≡ stopped s n → n ≤ granted → ShownByTheRules M q granted (ended s) (min granted n)
  with_none s n e h = record {
    value_if_derived_in_time = λ v. (λ x. impossible (cc), λ x. absurd (none v x));
    unfinished_if_more_steps_are_due = (
      λ x. impossible (cc),
      λ x. let m : steps (outcome M q) ≡ n = ap steps e in absurd (omega arith),
    );
    undefined_has_no_derivation = λ x. let y : s ≡ Stop.undefined = cc in (stops_mean_no_derivation_lem M q n).undefined_is_not_derived (e ∙ ap (λ a. stopped a n) y);
    circular_has_no_derivation = λ x. let y : s ≡ Stop.circular = cc in (stops_mean_no_derivation_lem M q n).circular_is_not_derived (e ∙ ap (λ a. stopped a n) y);
    uses_are_the_steps = λ v x. impossible (cc);
  }
    where
      none : (v : List Atom) → ((d : Derives M q v) × Within d × (def_uses d ≤ granted)) → ⊥
      none v x =
          let k : stopped s n ≡ value v (def_uses x.0) = sym e ∙ derived_values_are_outcomes_lem M q v x.0 x.1 in
          impossible (cc)

  by_outcome : (r : Outcome) → outcome M q ≡ r → (b : Bool) → leb (steps r) granted ≡ b
      → ShownByTheRules M q granted (elim b [ true ↦ settled r | false ↦ unfinished ]) (min granted (steps r))
  by_outcome r e false h = waiting r e (leb-false (steps r) granted h)
  by_outcome (value w n) e true h = with_value w n e (leb-true n granted h)
  by_outcome (stopped s n) e true h = with_none s n e (leb-true n granted h)

pub all_is_shown_by_the_rules_lem : AllIsShownByTheRules
all_is_shown_by_the_rules_lem M q granted = by_outcome M q granted (outcome M q) refl (leb (steps (outcome M q)) granted) refl
