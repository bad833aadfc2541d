-- Parts of a list of bytes, one behind the other.
use Rattle.std.specs.Prelude.{ℕ, ◌+◌, Bool, ◌&&◌, List, [], ◌∷◌, map, take, drop, ◌==◌, nat_le}
use Rattle.names.specs.declared.part.Part.{Part}

abbrev pub part_of : List ℕ → Part → List ℕ
part_of bytes p = take p.len (drop p.start bytes)

abbrev pub parts_of : List ℕ → List Part → List (List ℕ)
parts_of bytes parts = map (part_of bytes) parts

-- a part that starts at `from` and has at most 32 bytes
abbrev pub fit : ℕ → Part → Bool
fit from p = p.start == from && nat_le p.len 32

-- the parts fill the bytes from `from` to `end`, one behind the other
abbrev pub in_order : ℕ → List Part → ℕ → Bool
in_order from [] end = from == end
in_order from (p ∷ ps) end = fit from p && in_order (from + p.len) ps end
