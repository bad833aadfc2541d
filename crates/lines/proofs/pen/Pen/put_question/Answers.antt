use Rattle.std.proofs.Common.{◌≡◌, ap, ◌∙◌, arith}
use Rattle.std.proofs.lemmas.Grind.{common_steps}
use Rattle.terms.specs.declared.items.Node.{Node}
use Rattle.names.specs.Tables.{nodes_in, atoms_in}
use Rattle.sentences.specs.Kept.{question_of}
use Rattle.lines.specs.Bytes.{question_bytes}
use Rattle.lines.specs.Names.{name_or_none, names_of}
use Rattle.lines.proofs.Pens.{then, spells}
use Rattle.lines.proofs.pen.Pen.put_question.Goals as goal

pub returns : goal.returns
returns c =
    let nodes = nodes_in c.args.names.now in
    let atoms = atoms_in c.args.names.now in
    let name : c.unwrap_or.result.now ≡ name_or_none nodes c.node.result.0 = grind (arith, common_steps) in
    spells
    (ap (λ p. question_bytes c.unwrap_or.result.now (names_of atoms p)) c.path.ensures
    ∙ ap (λ x. question_bytes x (names_of atoms (question_of c.args.question.now).path))
    (name ∙ ap (λ (n : Node). name_or_none nodes n.0) c.node.ensures))
    (then c.put.ensures (then c.put-2.ensures (then c.put_path.ensures c.put-3.ensures)))
