-- The last place in a list at which a test holds.
use Rattle.std.specs.Prelude.{ℕ, suc, Bool, cond, List, [], ◌∷◌, length, take, Some, None, Option, nat_eq, nat_lt, slice_index}

abbrev pub or_here : Bool → Option ℕ → Option ℕ
or_here b None = cond b (Some 0) None
or_here b (Some i) = Some (suc i)

abbrev pub last_by : {X : Type 0} → (X → Bool) → List X → Option ℕ
last_by f [] = None
last_by f (x ∷ xs) = or_here (f x) (last_by f xs)

-- the last place before i that has the number at i; none where there is no place i
abbrev pub earlier : List ℕ → ℕ → Option ℕ
earlier bs i = cond (nat_lt i (length bs)) (last_by (nat_eq (slice_index bs i)) (take i bs)) None

-- how many places there are up to and with one that may not be there
abbrev pub up_to : Option ℕ → ℕ
up_to None = 0
up_to (Some i) = suc i
