use Rattle.lines.proofs.Pens.{then}
use Rattle.lines.proofs.pen.Pen.put_refused.Goals as goal

pub returns : goal.returns
returns c = then c.put.ensures (then c.put-2.ensures c.put_placed.ensures)
