-- Sentences, as a keeper takes them, and the map that a list of them gives.
use Rattle.std.specs.Prelude.{ℕ, ◌+◌, Bool, cond, ◌&&◌, List, [], ◌∷◌, length, Some, None, ◌==◌}
use Rattle.terms.specs.declared.items.Node.{Node}
use Rattle.terms.specs.declared.items.Atom.{Atom}
use Rattle.terms.specs.declared.items.Item.{Item}
use Rattle.terms.specs.Terms.{terms_of}
use Rattle.terms.specs.Maps.{Map, same_atoms}

pub record Sentence : Type 0 where
  pub node : Node
  pub left : List Atom
  pub right : List Item

abbrev pub sentence : Node → List Atom → List Item → Sentence
sentence n l r = record { node = n; left = l; right = r }

-- whether a sentence is that of a node and a left path
abbrev pub is_pair : Node → List Atom → Sentence → Bool
is_pair n l s = n.0 == s.node.0 && same_atoms l s.left

-- The map: of the sentences of a pair the first counts, and its items are read as terms.
abbrev pub map_of : List Sentence → Map
map_of [] n l = None
map_of (s ∷ ss) n l = cond (is_pair n l s) (Some (terms_of s.right)) (map_of ss n l)

-- the atoms in left paths, and the items
abbrev pub atoms_in : List Sentence → ℕ
atoms_in [] = 0
atoms_in (s ∷ ss) = length s.left + atoms_in ss

abbrev pub items_in : List Sentence → ℕ
items_in [] = 0
items_in (s ∷ ss) = length s.right + items_in ss
