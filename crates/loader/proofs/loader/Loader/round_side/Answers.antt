use Rattle.std.proofs.Common.{true, refl, arith, ◌≡◌, Ok, rules}
use Rattle.std.proofs.lemmas.Result.{err_from_is_err_and}
use Rattle.lookahead.specs.declared.word.Word.TheVariants as w
use Rattle.loader.proofs.Onward
use Rattle.loader.proofs.Runs
use Rattle.loader.proofs.Sentences
use Rattle.loader.proofs.loader.Loader.round_side.Goals as goal

pub returns-in_err-keep-in-Ok-Close-clause-goes : goal.returns-in_err-keep-in-Ok-Close-clause-goes
returns-in_err-keep-in-Ok-Close-clause-goes g c =
    let q : c.right_side.new.self.parser.word ≡ Ok w.Close = search rules in
    let told = c.in_ok-right_side.ensures in
    let x = (Sentences.round_side_lem _ _ _ _ _ _ _ _ told.goes told.stops).0 in
    let p = err_from_is_err_and c.from_residual-in_err-keep-in-Ok-Close.result c.from_residual-in_err-keep-in-Ok-Close.ensures.1 in
    let k = c.in_err-keep-in-Ok-Close.ensures.goes in
    rw (p.1, p.2) (Sentences.side_ends_refused true _ _ _ _ _ _ _ _ c.clear.ensures.items x g.K.Keeper.limits c.args.node (g.K.Keeper.kept c.args.keeper.now) c.args.place _ q _ (Sentences.as_sentence _ _ _ _ _ c.as_slice.ensures.value c.as_slice-in-Ok-Close.ensures.value) k.0 k.1.0 c.in_err-keep-in-Ok-Close.field-0.0 k.1.1.0 k.1.1.1.0)

pub returns-in_ok-keep-in-Ok-Close : goal.returns-in_ok-keep-in-Ok-Close
returns-in_ok-keep-in-Ok-Close g c =
    let q : c.right_side.new.self.parser.word ≡ Ok w.Close = search rules in
    let told = c.in_ok-right_side.ensures in
    let x = (Sentences.round_side_lem _ _ _ _ _ _ _ _ told.goes told.stops).0 in
    let k = c.in_ok-keep-in-Ok-Close.ensures.goes in
    record {
      goes = Sentences.side_ends true _ _ _ _ _ _ _ _ c.clear.ensures.items x g.K.Keeper.limits c.args.node (g.K.Keeper.kept c.args.keeper.now) c.args.place _ q c.requires.left _ (Sentences.as_sentence _ _ _ _ _ c.as_slice.ensures.value c.as_slice-in-Ok-Close.ensures.value) k.0 _ k.1 _ _ c.advance.ensures.moves;
      onward = Onward.on _ _ _ told.takes.onward c.advance.ensures.onward;
      less = λ e. omega (arith, told.less refl, Runs.one_word c.right_side.new.self.parser.place c.right_side.new.self.parser.word w.Close _ _ q refl c.advance.ensures.size);
    }

pub returns-in_default-clause-goes : goal.returns-in_default-clause-goes
returns-in_default-clause-goes g c =
    let not : c.right_side.new.self.parser.word ≡ Ok w.Close → ⊥ = λ q. grind arith in
    let told = c.in_ok-right_side.ensures in
    let x = Sentences.round_side_lem _ _ _ _ _ _ _ _ told.goes told.stops in
    Sentences.side_bad true _ _ _ _ _ _ _ _ c.clear.ensures.items x.0 g.K.Keeper.limits c.args.node (g.K.Keeper.kept c.args.keeper.now) c.args.place _ x.1 not c.misplaced.result c.misplaced.ensures.number c.misplaced.ensures.place
