-- What is shown of what is held is right by Keller's rules.
use Rattle.std.proofs.Common.{◌≡◌, ℕ, ◌<◌, List, Some, None, Option, sym, refl, ap, subst, arith}
use Rattle.terms.specs.declared.items.Atom.{Atom}
use Rattle.terms.specs.Maps.{Map}
use Rattle.rules.specs.Keller.{Derives, def_uses}
use Rattle.rules.specs.Evaluation.{outcome}
use Rattle.rules.specs.Shown.{Shown, steps}
use Rattle.rules.proofs.Shown.{all_is_shown_by_the_rules_lem}
use Rattle.evaluator.specs.Calls.{Holding, shown_for, reported_for}
use Rattle.evaluator.specs.Promise.{DerivedInTime, ByTheRules}

some_same : {A : Type 0} (a b : A) → ◌≡◌ {A = Option A} (Some a) (Some b) → a ≡ b
some_same a b e = cc

none_some : {A : Type 0} (a : A) → ◌≡◌ {A = Option A} None (Some a) → ⊥
none_some a e = let z : ◌≡◌ {A = ℕ} 0 1 = cc in omega arith

some_none : {A : Type 0} (a : A) → ◌≡◌ {A = Option A} (Some a) None → ⊥
some_none a e = let z : ◌≡◌ {A = ℕ} 0 1 = cc in omega arith

defined_right : (M : Map) (h : Option Holding) → ByTheRules M h (shown_for M h) (reported_for M h)
defined_right M None = record {
  shown_as_defined = refl;
  steps_as_defined = refl;
  idle_if_none_is_held = (λ _. refl, λ _. refl);
  unfinished_if_more_steps_are_due = (λ x. absurd (none_some _ x), λ x. absurd (none_some _ x.1));
  value_if_derived_in_time = λ v. (λ x. absurd (none_some _ x), λ x. absurd (none_some _ x.1));
  undefined_has_no_derivation = λ x. absurd (none_some _ x);
  circular_has_no_derivation = λ x. absurd (none_some _ x);
  uses_are_the_steps = λ v x. absurd (none_some _ x);
}
defined_right M (Some a) =
    let t = all_is_shown_by_the_rules_lem M a.question a.granted in
    record {
      shown_as_defined = refl;
      steps_as_defined = refl;
      idle_if_none_is_held = (λ x. absurd (some_none _ x), λ x. absurd (some_none _ x));
      unfinished_if_more_steps_are_due = (
        λ x. (a, refl, t.unfinished_if_more_steps_are_due.0 (some_same _ _ x)),
        λ x. ap Some (t.unfinished_if_more_steps_are_due.1
            (subst (λ (b : Holding). b.granted < steps (outcome M b.question)) (sym (some_same _ _ x.1)) x.2)),
      );
      value_if_derived_in_time = λ v. (
        λ x. (a, refl, (t.value_if_derived_in_time v).0 (some_same _ _ x)),
        λ x. ap Some ((t.value_if_derived_in_time v).1 (subst (λ b. DerivedInTime M b v) (sym (some_same _ _ x.1)) x.2)),
      );
      undefined_has_no_derivation = λ x b e v d.
          t.undefined_has_no_derivation (some_same _ _ x) v (subst (λ (k : Holding). Derives M k.question v) (sym (some_same _ _ e)) d);
      circular_has_no_derivation = λ x b e v d.
          t.circular_has_no_derivation (some_same _ _ x) v (subst (λ (k : Holding). Derives M k.question v) (sym (some_same _ _ e)) d);
      uses_are_the_steps = λ v x b e.
          subst (λ (k : Holding). (w : List Atom) (d : Derives M k.question w) → (w ≡ v) × (def_uses d ≡ reported_for M (Some a))) (some_same _ _ e)
          (t.uses_are_the_steps v (some_same _ _ x));
    }

pub right : (M : Map) (h : Option Holding) (out : Option Shown) (n : ℕ) → out ≡ shown_for M h → n ≡ reported_for M h → ByTheRules M h out n
right M h out n e f = subst (λ x. ByTheRules M h x n) (sym e) (subst (λ k. ByTheRules M h (shown_for M h) k) (sym f) (defined_right M h))
