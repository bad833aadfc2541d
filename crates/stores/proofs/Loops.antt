-- The steps of a loop over items.
use Rattle.std.proofs.Common.{◌≡◌, ℕ, ◌+◌, ◌<◌, List, length, get_or, drop, Some, Option, sym, ap, ◌∙◌}
use Rattle.std.proofs.lemmas.List.{at_drop_more}
use Rattle.terms.specs.declared.items.Item.{Item}
use Rattle.terms.specs.declared.items.Item.TheVariants as item
use Rattle.stores.specs.Refusals.{open_after, closes}

-- what a read past the end would give
abbrev pub blank : Item
blank = item.Atom (record { 0 = 0 })

pub closes_more : (most d : ℕ) (o : Option ℕ) (is : List Item) (i : ℕ) → i < length is → o ≡ open_after most d (get_or is i blank)
    → closes most o (drop (i + 1) is) ≡ closes most (Some d) (drop i is)
closes_more most d o is i h e = ap (λ x. closes most x (drop (i + 1) is)) e ∙ sym (at_drop_more (closes most (Some d)) is i blank h)
