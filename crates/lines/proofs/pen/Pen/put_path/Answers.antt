use Rattle.std.proofs.Common.{◌≡◌, ◌∷◌, ◌++◌, sym, ap, ◌∙◌, arith}
use Rattle.std.proofs.lemmas.Grind.{common_steps}
use Rattle.names.specs.Tables.{atoms_in}
use Rattle.lines.specs.Bytes.{atom_bytes, value_bytes, spaced}
use Rattle.lines.specs.Names.{names_of}
use Rattle.lines.proofs.Pens.{then, spells}
use Rattle.lines.proofs.pen.Pen.put_path.Goals as goal

pub returns-in-Some : goal.returns-in-Some
returns-in-Some c =
    let names = atoms_in c.args.names.now in
    let rest = c.in-Some.rest.now in
    let e : c.args.atoms.now ≡ c.in-Some.first.now ∷ rest = grind (arith, common_steps) in
    spells
    (ap (λ x. atom_bytes x ++ value_bytes (names_of names rest)) c.atom_name.ensures ∙ sym (ap (λ l. spaced (names_of names l)) e))
    (then c.put_atom.ensures c.put_value.ensures)
