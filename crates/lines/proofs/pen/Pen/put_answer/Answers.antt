use Rattle.lines.proofs.Pens.{then}
use Rattle.lines.proofs.pen.Pen.put_answer.Goals as goal

pub returns : goal.returns
returns c =
    then c.put_question.ensures
    (then c.put.ensures (then c.put_said.ensures (then c.put-2.ensures (then c.put_number.ensures c.put-3.ensures))))
