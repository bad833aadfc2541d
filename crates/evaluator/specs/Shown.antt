-- What is shown, by the answers of the showing calls.
use Rattle.std.specs.Prelude.{ℕ, List, [], Some, None, Option}
use Rattle.std.specs.List.{slice_get}
use Rattle.terms.specs.declared.items.Atom.{Atom}
use Rattle.rules.specs.Outcomes as outcomes
use Rattle.rules.specs.Shown.{Shown, unfinished, shows, ended}
use Rattle.engine.specs.declared.table.Stop.{Stop}
use Rattle.engine.specs.declared.table.Stop.TheVariants as stop
use Rattle.evaluator.specs.declared.answers.Outcome.{Outcome}
use Rattle.evaluator.specs.declared.answers.Outcome.TheVariants as answer

abbrev pub stopped_by : outcomes.Stop → Stop
stopped_by outcomes.Stop.undefined = stop.Undefined
stopped_by outcomes.Stop.path = stop.Path
stopped_by outcomes.Stop.circular = stop.Circular
stopped_by outcomes.Stop.depth = stop.Depth
stopped_by outcomes.Stop.length = stop.Length

abbrev pub outcome_of : Option Shown → Outcome
outcome_of None = answer.Idle
outcome_of (Some unfinished) = answer.Unfinished
outcome_of (Some (shows v)) = answer.Value
outcome_of (Some (ended s)) = answer.Stopped (stopped_by s)

-- the atom at a place, counted from 0
abbrev pub atom_at : List Atom → ℕ → Option Atom
atom_at v k = slice_get v k

-- the atoms of the value; none where no value is shown
abbrev pub value_of : Option Shown → List Atom
value_of None = []
value_of (Some unfinished) = []
value_of (Some (shows v)) = v
value_of (Some (ended s)) = []

-- the atom at a place of the value, none past its end; and none where no value is shown
abbrev pub atom_of : Option Shown → ℕ → Option Atom
atom_of None k = None
atom_of (Some unfinished) k = None
atom_of (Some (shows v)) k = atom_at v k
atom_of (Some (ended s)) k = None
