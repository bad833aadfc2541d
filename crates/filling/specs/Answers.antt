-- What two stores answer.
use Rattle.std.specs.Prelude.{◌≡◌, ℕ, List}
use Rattle.terms.specs.declared.items.Node.{Node}
use Rattle.terms.specs.declared.items.Atom.{Atom}
use Rattle.terms.specs.Maps.{Map}
use Rattle.terms.specs.LookUp.{look_up, length_found}
use Rattle.stores.specs.Items.{item_at, items_of}

-- find and item answer by one map as by another
pub record Alike (M N : Map) : Type 0 where
  pub find : (n : Node) (p : List Atom) → length_found (look_up (M n) p) ≡ length_found (look_up (N n) p)
  pub item : (n : Node) (l : List Atom) (k : ℕ) → item_at (items_of (M n l)) k ≡ item_at (items_of (N n l)) k
