use Rattle.std.proofs.Common.{◌++◌, ap}
use Rattle.names.specs.Tables.{atoms_in}
use Rattle.lines.specs.Bytes.{value_bytes}
use Rattle.lines.specs.Names.{names_of}
use Rattle.lines.proofs.Pens.{then, spells}
use Rattle.lines.proofs.pen.Pen.put_said.Goals as goal

pub returns : goal.returns
returns c =
    spells (ap (λ w. w ++ value_bytes (names_of (atoms_in c.args.names.now) c.args.value.now)) c.outcome_word.ensures)
    (then c.put.ensures c.put_value.ensures)
