-- The items of a right side that a map may have.
use Rattle.std.specs.Prelude.{ℕ, List, [], Some, None, Option}
use Rattle.std.specs.List.{slice_get}
use Rattle.terms.specs.declared.items.Item.{Item}
use Rattle.terms.specs.Terms.{Terms, flat}

-- item k, counted from 0
abbrev pub item_at : List Item → ℕ → Option Item
item_at items k = slice_get items k

-- none where the map has no right side
abbrev pub items_of : Option Terms → List Item
items_of (Some t) = flat t
items_of None = []
