use Rattle.std.proofs.Common.{refl, arith, ◌≡◌, Ok, rules}
use Rattle.lookahead.specs.declared.word.Word.TheVariants as w
use Rattle.loader.proofs.Runs
use Rattle.loader.proofs.Turns.{by_number}
use Rattle.loader.proofs.Marks
use Rattle.loader.proofs.Sentences.{block_ends}
use Rattle.loader.proofs.loader.Loader.equation.Goals as goal

pub returns-in-Ok-Stop : goal.returns-in-Ok-Stop
returns-in-Ok-Stop c =
    let q : c.args.reader.now.parser.word ≡ Ok w.Stop = search rules in record {
      goes = λ l n kept. block_ends l n kept _ _ _ _ _ _ _ q c.requires.left c.advance.ensures.moves;
      onward = c.advance.ensures.onward;
      less = λ e. omega (arith, Runs.one_word c.args.reader.now.parser.place c.args.reader.now.parser.word w.Stop _ _ q refl c.advance.ensures.size);
    }

pub returns-in_default-clause-goes : goal.returns-in_default-clause-goes
returns-in_default-clause-goes c =
    let not_less : c.args.reader.now.parser.word ≡ Ok w.Less → ⊥ = λ q. grind arith in
    let not_stop : c.args.reader.now.parser.word ≡ Ok w.Stop → ⊥ = λ q. grind arith in λ l n kept f i. by_number l _ _ _ _ _ c.misplaced.result (Marks.no_equation l f _ _ _ not_less not_stop) c.misplaced.ensures.number c.misplaced.ensures.place
