-- Steps that are granted, steps-taken one by one.
use Rattle.std.proofs.Common.{◌≡◌, ℕ, zero, suc, ◌+◌, ◌-◌, ◌≤◌, vec_items, sym, refl, ap, ◌∙◌, arith}
use Rattle.terms.specs.Maps.{Map}
use Rattle.machine.specs.Steps.{Open, State, next, after, step_of, steps_taken}
use Rattle.machine.specs.Items.{meant, comes_to}
use Rattle.machine.proofs.Steps.{steps_add_up, taken_none}
use Rattle.engine.specs.declared.table.Phase.{Phase}
use Rattle.engine.specs.declared.inner.Machine.{Machine}
use Rattle.engine.specs.States.{parts}
use Rattle.engine.specs.Between.{state_in, Rests}
use Rattle.engine.specs.declared.table.Phase.TheVariants as phase

module _ (M : Map) where
  pub after_next : (k : ℕ) (p : State Open) → after M (k + 1) p ≡ next M (after M k p)
  unfolding after
  after_next k p = (steps_add_up M k 1 p).0

  pub taken_next : (k : ℕ) (p : State Open) → step_of (after M k p) ≡ 1 → steps_taken M k p ≡ k → steps_taken M (k + 1) p ≡ k + 1
  unfolding steps_taken
  taken_next k p e f = (steps_add_up M k 1 p).1 ∙ omega arith

  stays : (n : ℕ) (p : State Open) → next M p ≡ p → after M n p ≡ p
  unfolding after
  stays zero p e = refl
  stays (suc n) p e = ap (after M n) e ∙ stays n p e

  -- at the end further grants change nothing
  pub record Over (k n : ℕ) (p : State Open) : Type 0 where
    pub same : after M k p ≡ after M n p
    pub none : k ≡ steps_taken M n p

  pub over : (k n : ℕ) (p : State Open) → k ≤ n → steps_taken M k p ≡ k → next M (after M k p) ≡ after M k p → step_of (after M k p) ≡ 0 → Over k n p
  over k n p h t e z =
      let s : k + (n - k) ≡ n = omega arith in
      let i = steps_add_up M k (n - k) p in
      record {
        same = sym (ap (λ x. after M x p) (sym s) ∙ (i.0 ∙ stays (n - k) (after M k p) e));
        none = sym (ap (λ x. steps_taken M x p) (sym s) ∙ (i.1 ∙ omega (arith, taken_none M (n - k) (after M k p) e z)));
      }

  pub asks_one : (m : Machine) → m.phase ≡ phase.Asks → step_of (state_in M m) ≡ 1
  asks_one m e = ap (λ x. step_of (comes_to (meant M (parts x m.asked (vec_items m.table) (vec_items m.insides) (vec_items m.value))))) e

  ended_by : (x : Phase) (m : Machine) → Rests x → (x ≡ phase.Asks → ⊥)
      → let p : State Open = comes_to (meant M (parts x m.asked (vec_items m.table) (vec_items m.insides) (vec_items m.value))) in (next M p ≡ p) × (step_of p ≡ 0)
  unfolding next
  ended_by phase.Asks m r f = absurd (f refl)
  ended_by phase.Works m r f = absurd r
  ended_by phase.Has m r f = (refl, refl)
  ended_by (phase.Stops s) m r f = (refl, refl)

  pub ended : (m : Machine) → Rests m.phase → (m.phase ≡ phase.Asks → ⊥) → (next M (state_in M m) ≡ state_in M m) × (step_of (state_in M m) ≡ 0)
  ended m r f = ended_by m.phase m r f
