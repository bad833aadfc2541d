-- So many steps give the outcome, or leave it unfinished.
use Rattle.std.proofs.Common.{◌≡◌, ℕ, zero, suc, ◌+◌, min, Bool, true, false, leb, sym, refl, ap, ◌∙◌, suc-add, zero-add, one-add, arith}
use lib.Dec.{leb-zero, leb-suc-zero, leb-suc-suc}
use Rattle.terms.specs.Maps.{Map}
use Rattle.rules.specs.Outcomes.{Outcome, value, stopped, later}
use Rattle.rules.specs.Shown.{Shown, unfinished, settled, shown, steps}
use Rattle.machine.specs.Steps.{Open, State, asks, has, stops, next, after, step_of, steps_taken, start}
use Rattle.machine.specs.ToCome.{to_come}
use Rattle.machine.specs.Theorems.{shown_of, StepsShowTheOutcome, StepsTakenAreReported, StepsAddUp}
use Rattle.machine.proofs.ToCome.{next_to_come, start_to_come}

abbrev by : Outcome → Bool → Shown
by r b = elim b [ true ↦ settled r | false ↦ unfinished ]

-- of an outcome that takes one step more
not_yet : (r : Outcome) → shown (later 1 r) 0 ≡ unfinished
not_yet (value v m) = ap (by (value v m)) (ap (λ k. leb k 0) (one-add m) ∙ leb-suc-zero m)
not_yet (stopped s m) = ap (by (stopped s m)) (ap (λ k. leb k 0) (one-add m) ∙ leb-suc-zero m)

one_later : (r : Outcome) (n : ℕ) → shown (later 1 r) (suc n) ≡ shown r n
one_later (value v m) n = ap (by (value v m)) (ap (λ k. leb k (suc n)) (one-add m) ∙ leb-suc-suc m n)
one_later (stopped s m) n = ap (by (stopped s m)) (ap (λ k. leb k (suc n)) (one-add m) ∙ leb-suc-suc m n)

at_once : (r : Outcome) (n : ℕ) → steps r ≡ 0 → shown r n ≡ settled r
at_once r n e = ap (by r) (ap (λ k. leb k n) e ∙ leb-zero n)

pub after_shown : (M : Map) (n : ℕ) (p : State Open) → shown_of (after M n p) ≡ shown (to_come M p) n
unfolding after to_come next
after_shown M zero (asks q opens h) = sym (ap (λ r. shown r 0) (next_to_come M q opens h) ∙ not_yet (to_come M (next M (asks q opens h))))
after_shown M zero (has v) = refl
after_shown M zero (stops s) = refl
after_shown M (suc n) (asks q opens h) =
    after_shown M n (next M (asks q opens h))
    ∙ sym (ap (λ r. shown r (suc n)) (next_to_come M q opens h) ∙ one_later (to_come M (next M (asks q opens h))) n)
after_shown M (suc n) (has v) = after_shown M n (has v) ∙ (at_once (value v 0) n refl ∙ sym (at_once (value v 0) (suc n) refl))
after_shown M (suc n) (stops s) = after_shown M n (stops s) ∙ (at_once (stopped s 0) n refl ∙ sym (at_once (stopped s 0) (suc n) refl))

pub steps_show_the_outcome_lem : StepsShowTheOutcome
steps_show_the_outcome_lem M q n = after_shown M n (start q) ∙ ap (λ r. shown r n) (start_to_come M q)

pub taken_none : (M : Map) (n : ℕ) (p : State Open) → next M p ≡ p → step_of p ≡ 0 → steps_taken M n p ≡ 0
unfolding steps_taken
taken_none M zero p e f = refl
taken_none M (suc n) p e f = ap (λ x. step_of p + steps_taken M n x) e ∙ (ap (λ x. x + steps_taken M n p) f ∙ (zero-add (steps_taken M n p) ∙ taken_none M n p e f))

later_steps : (n : ℕ) (r : Outcome) → steps (later n r) ≡ n + steps r
later_steps n (value v m) = refl
later_steps n (stopped s m) = refl

pub after_taken : (M : Map) (n : ℕ) (p : State Open) → steps_taken M n p ≡ min n (steps (to_come M p))
unfolding steps_taken to_come next
after_taken M zero (asks q opens h) = omega arith
after_taken M zero (has v) = omega arith
after_taken M zero (stops s) = omega arith
after_taken M (suc n) (asks q opens h) =
    let a : steps_taken M n (next M (asks q opens h)) ≡ min n (steps (to_come M (next M (asks q opens h)))) = after_taken M n (next M (asks q opens h)) in
    let e : steps (to_come M (asks q opens h)) ≡ 1 + steps (to_come M (next M (asks q opens h))) = ap steps (next_to_come M q opens h) ∙ later_steps 1 (to_come M (next M (asks q opens h))) in
    omega arith
after_taken M (suc n) (has v) = let a : steps_taken M n (has v) ≡ 0 = taken_none M n (has v) refl refl in omega arith
after_taken M (suc n) (stops s) = let a : steps_taken M n (stops s) ≡ 0 = taken_none M n (stops s) refl refl in omega arith

pub steps_taken_are_reported : StepsTakenAreReported
steps_taken_are_reported M q n = after_taken M n (start q) ∙ ap (λ r. min n (steps r)) (start_to_come M q)

pub steps_add_up : StepsAddUp
unfolding steps_taken after
steps_add_up M zero n p = (ap (λ k. after M k p) (zero-add n), ap (λ k. steps_taken M k p) (zero-add n) ∙ sym (zero-add (steps_taken M n p)))
steps_add_up M (suc m) n p =
    let h : (after M (m + n) (next M p) ≡ after M n (after M m (next M p))) × (steps_taken M (m + n) (next M p) ≡ steps_taken M m (next M p) + steps_taken M n (after M m (next M p))) = steps_add_up M m n (next M p) in (
      ap (λ k. after M k p) (suc-add m n) ∙ h.0,
      ap (λ k. steps_taken M k p) (suc-add m n) ∙ omega (arith, h.1),
    )
