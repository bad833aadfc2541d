-- The names in a table, each at its number.
use Rattle.std.specs.Prelude.{ℕ, List, vec_items}
use Rattle.names.specs.declared.table.NameTable.{NameTable}
use Rattle.names.specs.Parts.{parts_of}

abbrev pub names_in : NameTable → List (List ℕ)
names_in t = parts_of (vec_items t.bytes) (vec_items t.parts)

abbrev pub limit_of : NameTable → ℕ
limit_of t = t.limit
