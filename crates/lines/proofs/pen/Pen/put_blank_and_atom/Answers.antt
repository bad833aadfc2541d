use Rattle.std.proofs.Common.{◌∷◌, ap}
use Rattle.lines.specs.Bytes.{atom_bytes}
use Rattle.lines.proofs.Pens.{then, spells}
use Rattle.lines.proofs.pen.Pen.put_blank_and_atom.Goals as goal

pub returns : goal.returns
returns c = spells (ap (λ x. 32 ∷ atom_bytes x) c.atom_name.ensures) (then c.put.ensures c.put_atom.ensures)
