-- No name stands twice.
use Rattle.std.specs.Prelude.{ℕ, Bool, true, not, ◌&&◌, List, [], ◌∷◌}
use Rattle.std.specs.Str.{bytes_eq}

abbrev pub none_is : List ℕ → List (List ℕ) → Bool
none_is x [] = true
none_is x (y ∷ ys) = not (bytes_eq x y) && none_is x ys

abbrev pub distinct : List (List ℕ) → Bool
distinct [] = true
distinct (x ∷ xs) = none_is x xs && distinct xs
