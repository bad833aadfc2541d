use Rattle.std.proofs.Common.{take}
use Rattle.names.specs.Tables.{atoms_in}
use Rattle.lines.specs.Bytes.{value_bytes}
use Rattle.lines.specs.Names.{names_of}
use Rattle.lines.specs.Pens.{Spells}
use Rattle.lines.proofs.pen.Pen.put_value.Given as goal

abbrev pub invariant-loop-atom : goal.invariant-loop-atom
invariant-loop-atom l = Spells l.initial.self (value_bytes (names_of (atoms_in l.names) (take l.atom-index l.atoms))) l.self
