-- What a store means: a map from pairs of a node and a left path to right sides.
use Rattle.std.specs.Prelude.{◌≡◌, ℕ, ◌<◌, ◌≤◌, Bool, true, false, ◌&&◌, List, [], ◌∷◌, length, take, Some, None, Option, ◌==◌, nat_lt}
use Rattle.std.specs.List.{list_all}
use Rattle.terms.specs.declared.items.Node.{Node}
use Rattle.terms.specs.declared.items.Atom.{Atom}
use Rattle.terms.specs.declared.items.Item.{Item}
use Rattle.terms.specs.declared.items.Item.TheVariants as item
use Rattle.terms.specs.Limits.{node_limit, atom_limit, path_limit, item_limit, nesting_limit}
use Rattle.terms.specs.Terms.{Terms, flat, nesting}

abbrev pub Map : Type 0
Map = Node → List Atom → Option Terms

-- Of the left paths at n with which p begins, the longest has k atoms, and t is its right side.
pub record Longest (M : Map) (n : Node) (p : List Atom) (k : ℕ) (t : Terms) : Type 0 where
  pub within : k ≤ length p
  pub sentence : M n (take k p) ≡ Some t
  pub longest : (j : ℕ) → k < j → j ≤ length p → M n (take j p) ≡ None

-- the numbers that nodes and atoms have
abbrev pub node_in_range : Node → Bool
node_in_range n = nat_lt n.0 node_limit

abbrev pub atom_in_range : Atom → Bool
atom_in_range a = nat_lt a.0 atom_limit

abbrev pub item_in_range : Item → Bool
item_in_range (item.Atom a) = atom_in_range a
item_in_range (item.Node q n) = node_in_range n
item_in_range (item.Open q None) = true
item_in_range (item.Open q (Some n)) = node_in_range n
item_in_range item.Close = true

-- a test that holds of every element
abbrev pub every : {X : Type 0} → (X → Bool) → List X → Bool
every f xs = list_all f xs

-- a sentence within the limits
pub record Fitting (n : Node) (l : List Atom) (t : Terms) : Type 0 where
  pub node : node_in_range n ≡ true
  pub left_atoms : every atom_in_range l ≡ true
  pub left_length : length l ≤ path_limit
  pub right_items : every item_in_range (flat t) ≡ true
  pub right_length : length (flat t) ≤ item_limit
  pub right_nesting : nesting t ≤ nesting_limit

-- every sentence of the map is within the limits
abbrev pub Lawful : Map → Type 0
Lawful M = (n : Node) (l : List Atom) (t : Terms) → M n l ≡ Some t → Fitting n l t

-- what a store means
pub record Meaning : Type 0 where
  pub map : Map
  pub lawful : Lawful map

-- the test of two paths, atom by atom
abbrev pub same_atoms : List Atom → List Atom → Bool
same_atoms [] [] = true
same_atoms [] (b ∷ y) = false
same_atoms (a ∷ x) [] = false
same_atoms (a ∷ x) (b ∷ y) = a.0 == b.0 && same_atoms x y
