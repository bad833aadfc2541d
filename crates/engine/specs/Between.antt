-- What a machine holds between steps, and what steps make of it.
use Rattle.std.specs.Prelude.{◌≡◌, ℕ, List, [], ◌∷◌, None, Option}
use Rattle.terms.specs.declared.items.Item.{Item}
use Rattle.terms.specs.Maps.{Map, Meaning}
use Rattle.stores.specs.Items.{item_at}
use Rattle.machine.specs.Steps.{Open, State, next, after, steps_taken}
use Rattle.machine.specs.Items.{Position, right_side, meant, comes_to, took}
use Rattle.machine.specs.Bounds.{InsidesMatch, Asked}
use Rattle.engine.specs.declared.table.Phase.{Phase}
use Rattle.engine.specs.declared.table.Phase.TheVariants as phase
use Rattle.engine.specs.declared.table.Worked.{Worked}
use Rattle.engine.specs.declared.inner.Machine.{Machine}
use Rattle.engine.specs.States.{progress_of, positions_in}

-- the state that the step which a machine is in comes to; between steps, the state that it is in
abbrev pub state_in : Map → Machine → State Open
state_in M m = comes_to (meant M (progress_of m))

-- the item that is worked next, of the sentence opened last
abbrev pub next_item : Map → List Position → Option Item
next_item M [] = None
next_item M (o ∷ os) = item_at (right_side M o) o.place

-- not within a step
abbrev pub Rests : Phase → Type 0
Rests phase.Asks = Unit {0}
Rests phase.Works = ⊥
Rests phase.Has = Unit {0}
Rests (phase.Stops s) = Unit {0}

-- a machine that is not within a step, over a store of the map M
pub record Between (M : Map) (m : Machine) : Type 0 where
  pub rests : Rests m.phase
  pub insides : InsidesMatch M (progress_of m)

-- z is m after one item more
abbrev pub TakesAnItem : Meaning → Machine → Machine → Type 0
TakesAnItem s m z =
    InsidesMatch s.map (progress_of m) → progress_of z ≡ took (next_item s.map (positions_in m)) (progress_of m)

-- z is one step after m, for which the store was asked so often
pub record StepsOn (M : Map) (m z : Machine) (requests : ℕ) : Type 0 where
  pub insides : InsidesMatch M (progress_of z)
  pub state : state_in M z ≡ next M (state_in M m)
  pub asked : Asked M (progress_of m) 1 requests (progress_of z)

abbrev pub TakesAStep : Meaning → Machine → Machine → ℕ → Type 0
TakesAStep s m z requests = InsidesMatch s.map (progress_of m) → StepsOn s.map m z requests

-- z is what so many granted steps make of m, of which some were taken
pub record WentOn (M : Map) (granted : ℕ) (m z : Machine) (r : Worked) : Type 0 where
  pub between : Between M z
  pub state : state_in M z ≡ after M granted (state_in M m)
  pub steps : r.steps ≡ steps_taken M granted (state_in M m)
  pub asked : Asked M (progress_of m) r.steps r.requests (progress_of z)

abbrev pub TakesSteps : Meaning → ℕ → Machine → Machine → Worked → Type 0
TakesSteps s granted m z r = Between s.map m → WentOn s.map granted m z r
