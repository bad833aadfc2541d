-- What is in chains, as callers see it.
use Rattle.std.specs.Prelude.{ℕ, List}

pub record Entries : Type 0 where
  -- how many buckets there are
  pub width : ℕ
  -- for how many entries there is memory
  pub room : ℕ
  -- the bucket of each entry, in the order of pushing
  pub buckets : List ℕ

-- the same memory with other entries
abbrev pub with_buckets : Entries → List ℕ → Entries
with_buckets c bs = record { width = c.width; room = c.room; buckets = bs }
