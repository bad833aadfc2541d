-- The first place in a list at which a test holds.
use Rattle.std.specs.Prelude.{ℕ, suc, Bool, cond, List, [], ◌∷◌, Some, None, Option}

abbrev pub next : Option ℕ → Option ℕ
next None = None
next (Some i) = Some (suc i)

abbrev pub first_by : {X : Type 0} → (X → Bool) → List X → Option ℕ
first_by f [] = None
first_by f (x ∷ xs) = cond (f x) (Some 0) (next (first_by f xs))
