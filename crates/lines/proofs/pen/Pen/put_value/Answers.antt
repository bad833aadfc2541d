use Rattle.names.specs.Tables.{atoms_in}
use Rattle.lines.proofs.Pens.{then, spells}
use Rattle.lines.proofs.Values.{value_more}
use Rattle.lines.proofs.pen.Pen.put_value.Goals as goal

pub loop-atom-preserved : goal.loop-atom-preserved
loop-atom-preserved c =
    spells (value_more (atoms_in c.args.names.now) c.args.atoms.now c.loop-atom.atom-index (record { 0 = 0 }) c.loop-atom-test.true)
    (then c.loop-atom.invariant c.put_blank_and_atom.ensures)
