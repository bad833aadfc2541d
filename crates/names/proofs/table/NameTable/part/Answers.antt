use Rattle.std.proofs.Common.{rules}
use Rattle.std.proofs.lemmas.List.{length-map}
use Rattle.names.proofs.Laws.{part_within}
use Rattle.names.proofs.table.NameTable.part.Goals as goal

pub overflow_add-end : goal.overflow_add-end
overflow_add-end c = search (rules, length-map, part_within)

pub slice_bounds-result-end : goal.slice_bounds-result-end
slice_bounds-result-end c = search (rules, length-map, part_within)
