-- What holds of an evaluation by steps.
use Rattle.std.specs.Prelude.{◌≡◌, ℕ, ◌+◌, ◌*◌, ◌≤◌, []}
use Rattle.terms.specs.Maps.{Map, Lawful}
use Rattle.rules.specs.Questions.{Question}
use Rattle.rules.specs.Evaluation.{outcome}
use Rattle.rules.specs.Shown.{Shown, unfinished, shows, ended, shown, reported}
use Rattle.machine.specs.Steps.{Open, State, asks, has, stops, whole, pose, after, steps_taken, start}
use Rattle.machine.specs.Items.{Position, Progress, reached}
use Rattle.machine.specs.Bounds.{Asked, asked_limit}

abbrev pub shown_of : {O : Type 0} → State O → Shown
shown_of (asks q opens b) = unfinished
shown_of (has v) = shows v
shown_of (stops s) = ended s

-- once as many steps are taken as the outcome takes, it is shown; and until then unfinished
abbrev pub StepsShowTheOutcome : Type 0
StepsShowTheOutcome = (M : Map) (q : Question) (n : ℕ) → shown_of (after M n (start q)) ≡ shown (outcome M q) n

-- as many steps are taken as are granted, and no more than the outcome takes
abbrev pub StepsTakenAreReported : Type 0
StepsTakenAreReported = (M : Map) (q : Question) (n : ℕ) → steps_taken M n (start q) ≡ reported (outcome M q) n

-- steps that are granted in two parts
abbrev pub StepsAddUp : Type 0
StepsAddUp = (M : Map) (m n : ℕ) (p : State Open)
    → (after M (m + n) p ≡ after M n (after M m p)) × (steps_taken M (m + n) p ≡ steps_taken M m p + steps_taken M n (after M m p))

-- the store is asked no more than asked-limit times for each step
abbrev pub StoreIsAskedWithinLimit : Type 0
StoreIsAskedWithinLimit = (M : Map) → Lawful M → (q : Question) (steps n : ℕ) (z : Progress Position)
    → Asked M (reached (pose [] q [] (whole []))) steps n z → n ≤ asked_limit * steps
