-- What a machine means: how far a step is.
use Rattle.std.specs.Prelude.{◌≡◌, ℕ, suc, ◌<◌, ◌≤◌, Bool, true, List, [], ◌∷◌, length, Some, None, Ok, Err, vec_items, Option, Result, nat_lt}
use Rattle.terms.specs.declared.items.Atom.{Atom}
use Rattle.terms.specs.declared.items.Item.{Item}
use Rattle.terms.specs.declared.items.Item.TheVariants as item
use Rattle.terms.specs.Limits.{item_limit}
use Rattle.rules.specs.Outcomes as outcomes
use Rattle.machine.specs.Steps.{Built, whole, inside, room, full, put, asks, has, stops, State, pose}
use Rattle.machine.specs.Items.{Position, onward, Progress, working, reached, questions_at, looked_up}
use Rattle.machine.specs.Bounds.{inside_limit}
use Rattle.path.specs.Atoms.{atoms_of}
use Rattle.sentences.specs.declared.table.Question.{Question as Kept}
use Rattle.sentences.specs.declared.table.Open.{Open}
use Rattle.sentences.specs.declared.table.Inside.{Inside}
use Rattle.engine.specs.declared.table.Stop.{Stop}
use Rattle.engine.specs.declared.table.Stop.TheVariants as stop
use Rattle.engine.specs.declared.table.Phase.{Phase}
use Rattle.engine.specs.declared.table.Phase.TheVariants as phase
use Rattle.engine.specs.declared.inner.Machine.{Machine}
use Rattle.sentences.specs.Kept.{question_of, position_of}

-- why there is no value, by case
abbrev pub stop_of : Stop → outcomes.Stop
stop_of stop.Undefined = outcomes.Stop.undefined
stop_of stop.Path = outcomes.Stop.path
stop_of stop.Circular = outcomes.Stop.circular
stop_of stop.Depth = outcomes.Stop.depth
stop_of stop.Length = outcomes.Stop.length

-- the open sentences, last opened first
abbrev pub stacked : List Open → List Position → List Position
stacked [] below = below
stacked (o ∷ os) below = stacked os (position_of o ∷ below)

abbrev pub positions_of : List Open → List Position
positions_of os = stacked os []

-- what is being built: the value, and in front of it the insides of paths, last opened first
abbrev pub built_of : List Inside → Built → Built
built_of [] h = h
built_of (i ∷ is) h = built_of is (inside i.quoting i.node (atoms_of i.atoms) h)

-- how far a step is, by the parts of a machine
abbrev pub parts : Phase → Kept → List Open → List Inside → List Atom → Progress Position
parts phase.Asks q os is v = reached (asks (question_of q) (positions_of os) (built_of is (whole v)))
parts phase.Works q os is v = working (positions_of os) (built_of is (whole v))
parts phase.Has q os is v = reached (has v)
parts (phase.Stops s) q os is v = reached (stops (stop_of s))

abbrev pub progress_of : Machine → Progress Position
progress_of m = parts m.phase m.asked (vec_items m.table) (vec_items m.insides) (vec_items m.value)

-- a new question, or one with too long a path
abbrev pub posed : Option Kept → List Position → Built → State Position
posed None os h = stops outcomes.Stop.path
posed (Some q) os h = pose (questions_at os) (question_of q) os h

-- a question that is asked, or why it is not
abbrev pub asked_or_stopped : Kept → Result (Unit {0}) Stop → List Position → Built → State Position
asked_or_stopped q (Ok u) os h = asks (question_of q) os h
asked_or_stopped q (Err s) os h = stops (stop_of s)

abbrev pub built_in : Machine → Built
built_in m = built_of (vec_items m.insides) (whole (vec_items m.value))

abbrev pub positions_in : Machine → List Position
positions_in m = positions_of (vec_items m.table)

-- the last sentence opened one item further
abbrev pub top_onward : List Position → List Position
top_onward [] = []
top_onward (o ∷ os) = onward o ∷ os

-- its place is one of an item
abbrev pub PlaceInRange : List Position → Type 0
PlaceInRange [] = Unit {0}
PlaceInRange (o ∷ os) = o.place < item_limit

-- an atom is taken, or has no room
abbrev pub Gathered : Result (Unit {0}) Stop → Built → Atom → Built → Type 0
Gathered (Ok x) h a g = ((m : ℕ) × (room h ≡ suc m)) × (g ≡ put (a ∷ []) h)
Gathered (Err s) h a g = (room h ≡ 0) × (stop_of s ≡ full h)

abbrev pub WantedInRange : Option Item → List Position → Type 0
WantedInRange None os = Unit {0}
WantedInRange (Some i) os = PlaceInRange os

-- there is room for the inside of one more path, if one is opened
abbrev pub Room : Option Item → ℕ → Type 0
Room None n = Unit {0}
Room (Some (item.Atom a)) n = Unit {0}
Room (Some (item.Node c m)) n = Unit {0}
Room (Some (item.Open c m)) n = n < inside_limit
Room (Some item.Close) n = Unit {0}

-- the same, as a test
abbrev pub roomy : Option Item → ℕ → Bool
roomy None n = true
roomy (Some (item.Atom a)) n = true
roomy (Some (item.Node c m)) n = true
roomy (Some (item.Open c m)) n = nat_lt n inside_limit
roomy (Some item.Close) n = true

-- a left path is no longer than the path of the question asked
abbrev pub LeftWithin : Option ℕ → Kept → Type 0
LeftWithin (Some k) q = k ≤ length (atoms_of q.path)
LeftWithin None q = Unit {0}

abbrev pub answered : Option ℕ → Progress Position → Progress Position
answered k (reached (asks q os h)) = looked_up k q os h
answered k (reached (has v)) = reached (has v)
answered k (reached (stops s)) = reached (stops s)
answered k (working os h) = working os h

-- o stands last in a table
abbrev pub Top : Open → List Position → Type 0
Top o [] = ⊥
Top o (p ∷ os) = position_of o ≡ p
