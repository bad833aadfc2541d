use Rattle.std.proofs.Common.{refl, arith, ◌≡◌, Ok, rules}
use Rattle.grammar.specs.Parsing.{body}
use Rattle.lookahead.specs.declared.word.Word.TheVariants as w
use Rattle.loader.proofs.Onward
use Rattle.loader.proofs.Runs
use Rattle.loader.proofs.Sentences.{from_state, due_equation, due_round, due_bare}
use Rattle.loader.proofs.loader.Loader.next_part.Goals as goal

pub round_side-requires-clause-few : goal.round_side-requires-clause-few
round_side-requires-clause-few g c =
    let q : c.args.reader.now.parser.word ≡ Ok w.Open = search rules in
    let z = Runs.one_word c.args.reader.now.parser.place c.args.reader.now.parser.word w.Open _ _ q refl c.advance.ensures.size in
    omega arith

pub returns-in-Equation-clause-goes : goal.returns-in-Equation-clause-goes
returns-in-Equation-clause-goes g c = from_state g.K.Keeper.limits c.args.node _ body _ _ _ _ (due_equation g.K.Keeper.limits _ _ _ c.args.due c.in-Equation.is) _ _ _ _ _ _ (c.equation.ensures.goes g.K.Keeper.limits c.args.node (g.K.Keeper.kept c.args.keeper.now))

pub returns-in-Ok-Open : goal.returns-in-Ok-Open
returns-in-Ok-Open g c =
    let q : c.args.reader.now.parser.word ≡ Ok w.Open = search rules in
    let z = Runs.one_word c.args.reader.now.parser.place c.args.reader.now.parser.word w.Open _ _ q refl c.advance.ensures.size in
    record {
      goes = from_state g.K.Keeper.limits c.args.node _ _ _ _ _ _ (due_round g.K.Keeper.limits _ c.args.due c.in-RightSide.place c.in-RightSide.is _ _ _ _ q _ _ c.advance.ensures.moves) _ _ _ _ _ _ c.round_side.ensures.goes;
      onward = Onward.on _ _ _ c.advance.ensures.onward c.round_side.ensures.onward;
      less = λ e. omega (arith, c.round_side.ensures.less e);
    }

pub returns-in_default-clause-goes : goal.returns-in_default-clause-goes
returns-in_default-clause-goes g c =
    let not : c.args.reader.now.parser.word ≡ Ok w.Open → ⊥ = λ q. grind arith in from_state g.K.Keeper.limits c.args.node _ _ _ _ _ _ (due_bare g.K.Keeper.limits _ c.args.due c.in-RightSide.place c.in-RightSide.is _ _ _ _ not) _ _ _ _ _ _ c.bare_side.ensures.goes
