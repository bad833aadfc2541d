-- What a question comes to: a value, or why there is none, and the steps that it takes.
use Rattle.std.specs.Prelude.{ℕ, ◌+◌, List, ◌++◌}
use Rattle.terms.specs.declared.items.Atom.{Atom}

-- Why a question comes to no value: its look-up, or one below it, finds nothing (undefined); a new question or the inside of a path has too
-- many atoms (path); a new question equals that of an open sentence (circular), or comes while too many are open (depth); the value gets
-- too many atoms (length).
pub data Stop : Type 0 where
  undefined path circular depth length : Stop

pub data Outcome : Type 0 where
  value : List Atom → ℕ → Outcome
  stopped : Stop → ℕ → Outcome

-- the same after n more steps
abbrev pub later : ℕ → Outcome → Outcome
later n (value v m) = value v (n + m)
later n (stopped s m) = stopped s (n + m)

-- the same with atoms in front of the value
abbrev pub behind : List Atom → Outcome → Outcome
behind u (value v m) = value (u ++ v) m
behind u (stopped s m) = stopped s m

-- one after the other: the second is told the value of the first, and steps add up
abbrev pub then : Outcome → (List Atom → Outcome) → Outcome
then (value v n) f = later n (f v)
then (stopped s n) f = stopped s n
