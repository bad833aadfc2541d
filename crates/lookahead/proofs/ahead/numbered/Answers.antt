use Rattle.std.proofs.Common.{sym, ap, ◌∙◌, rules}
use Rattle.words.specs.declared.word.Word.{Word as TextWord}
use Rattle.words.specs.Words.{token}
use Rattle.names.specs.Tables.{nodes_in, atoms_in}
use Rattle.lookahead.specs.Ahead.{names_of, word_for}
use Rattle.lookahead.proofs.Growth.{by_node, by_atom}
use Rattle.lookahead.proofs.Numbering.{given_node, given_atom}
use Rattle.lookahead.proofs.ahead.numbered.Goals as goal

pub returns-in-Ok : goal.returns-in-Ok
returns-in-Ok c = record { word = given_node (nodes_in c.args.names.now) c.in-Node.name.now _ c.in-Ok.ensures.gives ∙ sym (ap (λ (v : TextWord). word_for (names_of c.args.names.now) (token v)) c.in-Node.is); grows = by_node _ _ _ c.in-Ok.ensures.nodes c.in-Ok.ensures.atoms; names = search rules }

pub returns-in-Ok-atom : goal.returns-in-Ok-atom
returns-in-Ok-atom c = record { word = given_atom (atoms_in c.args.names.now) c.in-Atom.name.now _ c.in-Ok-atom.ensures.gives ∙ sym (ap (λ (v : TextWord). word_for (names_of c.args.names.now) (token v)) c.in-Atom.is); grows = by_atom _ _ _ c.in-Ok-atom.ensures.nodes c.in-Ok-atom.ensures.atoms; names = search rules }
