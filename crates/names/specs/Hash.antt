-- The bucket of a name.
use Rattle.std.specs.Prelude.{ℕ, ◌+◌, ◌*◌, ◌%◌, List, [], ◌∷◌}

abbrev pub mix : ℕ → ℕ → ℕ
mix h b = (h * 31 + b) % 4096

abbrev pub mixed : ℕ → List ℕ → ℕ
mixed h [] = h
mixed h (b ∷ x) = mixed (mix h b) x

abbrev pub bucket_of_lem : List ℕ → ℕ
bucket_of_lem x = mixed 0 x
