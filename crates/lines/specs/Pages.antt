-- A page into which lines are written, one behind the other.
use Rattle.std.specs.Prelude.{◌≡◌, ℕ, ◌+◌, ◌-◌, ◌^◌, ◌≤◌, min, Bool, cond, List, ◌++◌, length, take, drop, Ok, Err, Result, nat_le}
use Rattle.lines.specs.Bytes.{Line, line, refused}

-- a page with these bytes from a place on
abbrev pub written : List ℕ → ℕ → List ℕ → List ℕ
written page at bytes = take at page ++ (bytes ++ drop (at + length bytes) page)

-- the place behind so many bytes, or the last place that a number has
abbrev pub behind : ℕ → ℕ → ℕ
behind at n = min (at + n) (2 ^ 64 - 1)

-- Bytes spelled into a page from a place on: where they end, and that they stand there if they fit.
pub record Spelled (page : List ℕ) (at : ℕ) (bytes : List ℕ) (end : ℕ) (after : List ℕ) : Type 0 where
  pub ends : end ≡ behind at (length bytes)
  pub wrote : at + length bytes ≤ length page → after ≡ written page at bytes

-- whether they fit the rest of the page
abbrev pub fits : List ℕ → ℕ → List ℕ → Bool
fits page at bytes = nat_le (at + length bytes) (length page)

-- Of a line for the rest of a page: how far the page is filled then, or the number of the refusal, which is 15 where it does not fit; and
-- the page.
abbrev pub filled : Line → List ℕ → ℕ → Result ℕ ℕ
filled (line bytes) page fill = cond (fits page fill bytes) (Ok (fill + length bytes)) (Err 15)
filled (refused k) page fill = Err k

abbrev pub page_after : Line → List ℕ → ℕ → List ℕ
page_after (line bytes) page fill = cond (fits page fill bytes) (written page fill bytes) page
page_after (refused k) page fill = page
