use Rattle.lines.proofs.Pens.{then}
use Rattle.lines.proofs.pen.Pen.put_placed.Goals as goal

pub returns : goal.returns
returns c = then c.put_number.ensures (then c.put.ensures (then c.put_number-2.ensures c.put-2.ensures))
