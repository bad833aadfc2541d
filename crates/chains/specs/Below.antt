-- The entries of a bucket, from the last back to the first.
use Rattle.std.specs.Prelude.{◌≡◌, ℕ, zero, suc, ◌<◌, cond, List, [], ◌∷◌, length, None, Some, Option, nat_eq, slice_index}

-- those of bucket b that are numbered below n
abbrev pub entries_below : List ℕ → ℕ → ℕ → List ℕ
entries_below bs b zero = []
entries_below bs b (suc n) = cond (nat_eq b (slice_index bs n)) (n ∷ entries_below bs b n) (entries_below bs b n)

-- an entry of a bucket, or none
abbrev pub IsIn : Option ℕ → List ℕ → ℕ → Type 0
IsIn None bs b = Unit {0}
IsIn (Some i) bs b = (i < length bs) × (slice_index bs i ≡ b)
