use Rattle.std.proofs.Common.{[], ◌∙◌, arith, ◌≡◌, Ok, ap, rules}
use Rattle.grammar.specs.Parsing.{between}
use Rattle.lookahead.specs.Ahead.{names_of}
use Rattle.terms.specs.declared.items.Node.{Node}
use Rattle.faults.specs.Grammar.{number, place}
use Rattle.lookahead.specs.declared.word.Word.TheVariants as w
use Rattle.loader.proofs.Theories
use Rattle.loader.proofs.loader.Loader.theory.Goals as goal

pub block-requires-clause-few : goal.block-requires-clause-few
block-requires-clause-few g c =
    let q : c.loop-reader.reader.parser.word ≡ Ok (w.Node c.in-Ok-Node.node) = search rules in
    let z = Theories.few_words (names_of c.args.names.now) c.args.text.now in
    omega (arith, c.loop-reader.invariant.2, c.new-parser.ensures.size)

pub returns-in-Ok-End-clause-goes : goal.returns-in-Ok-End-clause-goes
returns-in-Ok-End-clause-goes g c =
    let q : c.loop-reader.reader.parser.word ≡ Ok w.End = search rules in
    let m = c.new-parser.ensures.moves g.K.Keeper.limits (between []) ∙ Theories.text_ends _ _ _ _ _ _ _ _ c.loop-reader.invariant.0 q (names_of c.loop-reader.reader.names.now) (Theories.all_met (names_of c.loop-reader.reader.names.now) c.loop-reader.reader.parser q) in
    search (rules, m)

pub returns-in_default-word-clause-goes : goal.returns-in_default-word-clause-goes
returns-in_default-word-clause-goes g c =
    let not_node : (n : Node) → c.loop-reader.reader.parser.word ≡ Ok (w.Node n) → ⊥ = λ n q. grind arith in
    let not_unnumbered : c.loop-reader.reader.parser.word ≡ Ok w.UnnumberedNode → ⊥ = λ q. grind arith in
    let not_end : c.loop-reader.reader.parser.word ≡ Ok w.End → ⊥ = λ q. grind arith in c.new-parser.ensures.moves _ (between []) ∙ Theories.text_bad _ _ _ _ _ _ _ _ c.loop-reader.invariant.0 not_node not_unnumbered not_end c.misplaced.result c.misplaced.ensures.number c.misplaced.ensures.place

pub returns-in-Ok-UnnumberedNode-clause-goes : goal.returns-in-Ok-UnnumberedNode-clause-goes
returns-in-Ok-UnnumberedNode-clause-goes g c =
    let q : c.loop-reader.reader.parser.word ≡ Ok w.UnnumberedNode = search rules in c.new-parser.ensures.moves _ (between []) ∙ Theories.unnumbered _ _ _ _ _ _ _ _ c.loop-reader.invariant.0 q c.no_number.result (ap number c.no_number.ensures) (ap place c.no_number.ensures)
