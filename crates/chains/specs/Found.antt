-- The last entry of a bucket for which a test answers true, where `answers i b` says that the test may answer b for entry i.
use Rattle.std.specs.Prelude.{◌≡◌, ℕ, ◌+◌, ◌<◌, ◌≤◌, Bool, true, false, List, length, slice_index}

-- the test answers false for each entry of the bucket from a place on
abbrev pub AllFailFrom : List ℕ → ℕ → (ℕ → Bool → Type 0) → ℕ → Type 0
AllFailFrom bs b answers from = (i : ℕ) → from ≤ i → i < length bs → slice_index bs i ≡ b → answers i false

pub record IsLastPassing (bs : List ℕ) (b : ℕ) (answers : ℕ → Bool → Type 0) (i : ℕ) : Type 0 where
  pub within : i < length bs
  pub bucket : slice_index bs i ≡ b
  pub passes : answers i true
  pub last : AllFailFrom bs b answers (i + 1)

-- the answers of a test that answers by f
abbrev pub AnswersBy : (ℕ → Bool) → ℕ → Bool → Type 0
AnswersBy f i r = r ≡ f i
