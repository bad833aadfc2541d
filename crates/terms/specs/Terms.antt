-- Right sides: lists of terms, and the items that they are kept as.
use Rattle.std.specs.Prelude.{◌≡◌, ℕ, zero, suc, ◌≤◌, max, Bool, true, false, ◌&&◌, ◌↔◌, List, [], ◌∷◌, ◌++◌, Option, nat_lt}
use Rattle.terms.specs.declared.items.Node.{Node}
use Rattle.terms.specs.declared.items.Atom.{Atom}
use Rattle.terms.specs.declared.items.Quoting.{Quoting}
use Rattle.terms.specs.declared.items.Item.{Item}
use Rattle.terms.specs.declared.items.Item.TheVariants as item
use Rattle.terms.specs.Limits.{nesting_limit}

-- A list of terms. A path has an optional node and a list of terms inside.
pub data Terms : Type 0 where
  done : Terms
  atom : Atom → Terms → Terms
  node : Quoting → Node → Terms → Terms
  path : Quoting → Option Node → Terms → Terms → Terms

-- the items that a list of terms is kept as
abbrev pub flat : Terms → List Item
flat done = []
flat (atom a rest) = item.Atom a ∷ flat rest
flat (node q n rest) = item.Node q n ∷ flat rest
flat (path q n inside rest) = item.Open q n ∷ (flat inside ++ (item.Close ∷ flat rest))

-- how deep paths nest
abbrev pub nesting : Terms → ℕ
nesting done = 0
nesting (atom a rest) = nesting rest
nesting (node q n rest) = nesting rest
nesting (path q n inside rest) = max (suc (nesting inside)) (nesting rest)

-- with d paths open: every close has its opening, every opening its close, and no more than may nest are open at a time
unfoldable pub balanced : ℕ → List Item → Bool
balanced zero [] = true
balanced (suc d) [] = false
balanced d (item.Atom a ∷ more) = balanced d more
balanced d (item.Node q n ∷ more) = balanced d more
balanced d (item.Open q n ∷ more) = nat_lt d nesting_limit && balanced (suc d) more
balanced zero (item.Close ∷ more) = false
balanced (suc d) (item.Close ∷ more) = balanced d more

-- Items read from their end: the terms in front of the first close that has no opening here, and those behind each such close.
pub record Reading : Type 0 where
  pub first : Terms
  pub behind : List Terms

abbrev pub in_path : Quoting → Option Node → Terms → List Terms → Reading
in_path q n inside [] = record { first = path q n inside done; behind = [] }
in_path q n inside (rest ∷ behind) = record { first = path q n inside rest; behind = behind }

unfoldable pub read : List Item → Reading
read [] = record { first = done; behind = [] }
read (item.Atom a ∷ more) = let r : Reading = read more in record { first = atom a r.first; behind = r.behind }
read (item.Node q n ∷ more) = let r : Reading = read more in record { first = node q n r.first; behind = r.behind }
read (item.Open q n ∷ more) = let r : Reading = read more in in_path q n r.first r.behind
read (item.Close ∷ more) = let r : Reading = read more in record { first = done; behind = r.first ∷ r.behind }

-- the terms that balanced items stand for
unfoldable pub terms_of : List Item → Terms
terms_of items = (read items).first

-- Items are balanced exactly if they are a list of terms in which paths nest no deeper than they may.
abbrev pub BalancedItemsAreTermLists : Type 0
BalancedItemsAreTermLists = (items : List Item) → (balanced 0 items ≡ true) ↔ ((t : Terms) × (flat t ≡ items) × (nesting t ≤ nesting_limit))

-- the items of a list of terms are read back as that list, so they are of no other
abbrev pub ItemsReadBack : Type 0
ItemsReadBack = (t : Terms) → terms_of (flat t) ≡ t
