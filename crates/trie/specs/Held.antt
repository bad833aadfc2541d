-- What is in a tree.
use Rattle.std.specs.Prelude.{◌≡◌, ℕ, ◌+◌, ◌≤◌, List, map, length, Some, vec_items, Option}
use Rattle.trie.specs.declared.Edge.{Edge}
use Rattle.trie.specs.declared.Trie.{Trie}
use Rattle.trie.specs.Ways.{edge_of, mark_of_lem, walk, lookup}

abbrev pub edges_in : Trie → List Edge
edges_in t = map edge_of (vec_items t.places)

abbrev pub marks_in : Trie → List (Option ℕ)
marks_in t = map mark_of_lem (vec_items t.places)

abbrev pub room_in : Trie → ℕ
room_in t = t.room

-- the place to which a word leads
abbrev pub place_in : Trie → List ℕ → Option ℕ
place_in t w = walk (edges_in t) (Some 0) w

-- the mark to which a word leads
abbrev pub mark_in : Trie → List ℕ → Option ℕ
mark_in t w = lookup (edges_in t) (marks_in t) w

-- a tree that has grown by so many edges at most: no word has gained or lost its mark
pub record Grows (old new : Trie) (n : ℕ) : Type 0 where
  pub same : (w : List ℕ) → mark_in new w ≡ mark_in old w
  pub more : length (edges_in new) ≤ length (edges_in old) + n
  pub room : room_in new ≡ room_in old
