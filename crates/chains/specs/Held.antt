-- What is in chains.
use Rattle.std.specs.Prelude.{ℕ, List}
use Rattle.chains.specs.declared.Chains.{Chains}

-- the bucket of each entry, in the order of pushing
abbrev pub buckets_in : Chains → List ℕ
buckets_in c = c.buckets

-- how many buckets there are
abbrev pub width_in : Chains → ℕ
width_in c = c.width

-- for how many entries there is memory
abbrev pub room_in : Chains → ℕ
room_in c = c.room
