-- The theorems over Keller's rules, from those over the table of questions.
use Rattle.std.proofs.Common.{◌≡◌, ◌<◌, List, sym, refl, ◌∙◌, arith}
use Rattle.terms.specs.declared.items.Atom.{Atom}
use Rattle.terms.specs.Limits.{open_limit}
use Rattle.rules.specs.Keller.{Derives, def_uses, def_depth}
use Rattle.rules.specs.Outcomes.{Stop, stopped}
use Rattle.rules.specs.Evaluation.{outcome}
use Rattle.rules.specs.Theorems.{DerivationsAgree, ValuesAreDerivedWithinTheLimits, DerivedValuesAreOutcomes, StopsMeanNoDerivation}
use Rattle.rules.proofs.Unique.{same_answer}
use Rattle.rules.proofs.Sound.{sound}
use Rattle.rules.proofs.Complete.{complete, stops_say}
use Rattle.rules.proofs.Keller.{by_table, table_derives_as_Keller}

pub derivations_agree_lem : DerivationsAgree
derivations_agree_lem M q v w d e =
    let a = by_table d in
    let b = by_table e in
    let h = same_answer a.tree b.tree in
    (h.0, sym a.counts ∙ h.1 ∙ b.counts)

pub values_are_derived : ValuesAreDerivedWithinTheLimits
values_are_derived M q v n e = (table_derives_as_Keller M q v n).1.0 (sound M q v n e)

pub derived_values_are_outcomes_lem : DerivedValuesAreOutcomes
derived_values_are_outcomes_lem M q v d w =
    let a = (table_derives_as_Keller M q v (def_uses d)).1.1 (d, w, refl) in
    let e = complete M q v a.0 a.1 in
    cc (e, a.2)

pub stops_mean_no_derivation_lem : StopsMeanNoDerivation
stops_mean_no_derivation_lem M q n = record {
  undefined_is_not_derived = λ e v d. stops_say M q Stop.undefined n e v (by_table d).tree;
  circular_is_not_derived = λ e v d. stops_say M q Stop.circular n e v (by_table d).tree;
  path_limit_is_not_kept = λ e v d s. let a = by_table d in stops_say M q Stop.path n e v a.tree (a.narrow s);
  open_limit_is_passed = passed;
  value_limit_is_passed = λ e v d. stops_say M q Stop.length n e v (by_table d).tree;
}
  where
    passed : outcome M q ≡ stopped Stop.depth n → (v : List Atom) (d : Derives M q v) → open_limit < def_depth d
    passed e v d =
        let a = by_table d in
        let h = stops_say M q Stop.depth n e v a.tree in
        omega (arith, a.depth)
