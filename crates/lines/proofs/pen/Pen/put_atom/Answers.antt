use Rattle.std.proofs.Common.{cond, [], ◌∷◌, ◌++◌, ap}
use Rattle.lines.proofs.Pens.{then, spells}
use Rattle.lines.proofs.pen.Pen.put_atom.Goals as goal

pub returns-else-is_bare : goal.returns-else-is_bare
returns-else-is_bare c =
    let x = c.args.name.now in
    spells (ap (λ b. cond b x (39 ∷ (x ++ 39 ∷ []))) c.if-is_bare.ensures)
    (then c.put-else-is_bare.ensures (then c.put-else-is_bare-2.ensures c.put-else-is_bare-3.ensures))
