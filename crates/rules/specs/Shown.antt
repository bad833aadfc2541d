-- What is shown of a question for a number of steps granted.
use Rattle.std.specs.Prelude.{ℕ, min, true, false, List, nat_le}
use Rattle.terms.specs.declared.items.Atom.{Atom}
use Rattle.rules.specs.Outcomes.{Stop, Outcome, value, stopped}

-- the steps that an outcome takes
abbrev pub steps : Outcome → ℕ
steps (value v n) = n
steps (stopped s n) = n

pub data Shown : Type 0 where
  unfinished : Shown
  shows : List Atom → Shown
  ended : Stop → Shown

-- what is shown once the outcome is known
abbrev pub settled : Outcome → Shown
settled (value v n) = shows v
settled (stopped s n) = ended s

-- The outcome if it takes no more steps than were granted; otherwise unfinished.
abbrev pub shown : Outcome → ℕ → Shown
shown r granted = elim (nat_le (steps r) granted) [ true ↦ settled r | false ↦ unfinished ]

-- the steps that are reported: as many as were granted, and no more than the outcome takes
abbrev pub reported : Outcome → ℕ → ℕ
reported r granted = min granted (steps r)
