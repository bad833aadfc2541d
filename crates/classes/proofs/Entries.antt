-- The table's rule, tested once over all of its entries.
use Rattle.std.proofs.Common.{◌≡◌, ℕ, ◌<◌, List, map, get_or, ap, ◌∙◌, zero-add}
use Rattle.std.specs.List.{range_with_len}
use Rattle.std.proofs.lemmas.List.FromFn.{get_or-map-range_with_len}
use Rattle.classes.specs.declared.ByteClass.{ByteClass}
use Rattle.classes.specs.Classes.{class_of}

-- a table of the class of each byte in turn has it at each place
pub at : (t : List ByteClass) → t ≡ map class_of (range_with_len 0 256) → (b : ℕ) (d : ByteClass) → b < 256 → get_or t b d ≡ class_of b
at t rule b d h = ap (λ t. get_or t b d) rule ∙ get_or-map-range_with_len class_of 0 256 b b d h (zero-add b)
