-- Names numbered from 0 in the order in which they are met.
use Rattle.std.specs.Prelude.{ℕ, zero, suc, Bool, false, cond, ◌&&◌, List, [], ◌∷◌, length, Some, None, Ok, Err, Option, Result, nat_le, nat_lt}
use Rattle.std.specs.Str.{bytes_eq}
use Rattle.names.specs.declared.part.NoNumber.{NoNumber}
use Rattle.names.specs.declared.part.NoNumber.TheVariants as refused

-- the number of a name: its place among the names, or the place behind them all
abbrev pub number : List (List ℕ) → List ℕ → ℕ
number [] x = 0
number (y ∷ ys) x = cond (bytes_eq y x) 0 (suc (number ys x))

-- the names with one more, unless it is there
abbrev pub met : List (List ℕ) → List ℕ → List (List ℕ)
met [] x = x ∷ []
met (y ∷ ys) x = cond (bytes_eq y x) (y ∷ ys) (y ∷ met ys x)

-- the name with a number
abbrev pub name_at : List (List ℕ) → ℕ → Option (List ℕ)
name_at [] k = None
name_at (x ∷ xs) zero = Some x
name_at (x ∷ xs) (suc k) = name_at xs k

-- a name has at most so many bytes
abbrev pub name_limit : ℕ
name_limit = 32

-- whether a table of so many names at most takes a name: it has a number below that
abbrev pub takes : ℕ → List (List ℕ) → List ℕ → Bool
takes limit names x = nat_le (length x) name_limit && nat_lt (number names x) limit

abbrev pub number_or_none : ℕ → List (List ℕ) → List ℕ → Result ℕ NoNumber
number_or_none limit names x = cond (takes limit names x) (Ok (number names x)) (Err refused.Full)

abbrev pub names_after : ℕ → List (List ℕ) → List ℕ → List (List ℕ)
names_after limit names x = cond (takes limit names x) (met names x) names

-- whether a name is the one with a number
abbrev pub is_at : List (List ℕ) → ℕ → List ℕ → Bool
is_at [] k x = false
is_at (y ∷ ys) zero x = bytes_eq y x
is_at (y ∷ ys) (suc k) x = is_at ys k x
