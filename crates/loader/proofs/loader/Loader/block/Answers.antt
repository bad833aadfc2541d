use Rattle.std.proofs.Common.{refl, ap, arith, ◌≡◌, Ok, sym, ◌∙◌, rules}
use Rattle.std.proofs.lemmas.Result.{err_from_is_err_and}
use Rattle.terms.specs.Maps.{every, atom_in_range}
use Rattle.grammar.specs.Parsing.{body}
use Rattle.lookahead.specs.declared.word.Word.TheVariants as w
use Rattle.lookahead.specs.Ended.{number_in_range}
use Rattle.loader.proofs.Onward
use Rattle.loader.proofs.Runs
use Rattle.loader.proofs.Sentences
use Rattle.loader.proofs.loader.Loader.block.Goals as goal

pub returns-in_err-pass-clause-goes : goal.returns-in_err-pass-clause-goes
returns-in_err-pass-clause-goes g c =
    let h = sym (ap number_in_range c.requires.starts) ∙ c.args.reader.now.parser.numbered in
    let no = c.in_err-pass.ensures.passes in
    let p = err_from_is_err_and c.from_residual.result c.from_residual.ensures.1 in
    rw (p.1, p.2) (λ bs q. Sentences.no_colon g.K.Keeper.limits c.args.node _ _ _ _ c.requires.starts h _ _ _ _ c.advance.ensures.moves no.other c.in_err-pass.field-0.0 no.kind no.at bs)

pub next_part-requires-clause-few : goal.next_part-requires-clause-few
next_part-requires-clause-few g c =
    let colon = c.in_ok-pass.ensures.passes in
    let z₁ = Runs.one_word c.args.reader.now.parser.place c.args.reader.now.parser.word (w.Node c.args.node) _ _ c.requires.starts refl c.advance.ensures.size in
    let z₂ = Runs.one_word c.advance.new.self.parser.place c.advance.new.self.parser.word w.Colon _ _ colon.ahead refl colon.taken in
    omega (arith, c.loop-next.invariant.2)

pub loop-next-init : goal.loop-next-init
loop-next-init g c = (record { in_range = ap (every atom_in_range) c.clear.ensures.items; comes = λ f i. record { front = f; is = i; comes = refl } }, Onward.still _, omega arith)

pub loop-next-preserved : goal.loop-next-preserved
loop-next-preserved g c =
    let told = c.in_ok-next.ensures in
    (Sentences.part_read g.K.Keeper.limits c.args.node body _ _ _ _ _ _ _ _ c.in-Some.due c.in-Some.is c.loop-next.invariant.0 _ _ _ _ _ told.goes, Onward.on _ _ _ c.loop-next.invariant.1 told.onward, omega (arith, told.less refl, c.loop-next.invariant.2))

pub returns-in_err-next-clause-goes : goal.returns-in_err-next-clause-goes
returns-in_err-next-clause-goes g c =
    let h = sym (ap number_in_range c.requires.starts) ∙ c.args.reader.now.parser.numbered in
    let colon = c.in_ok-pass.ensures.passes in
    let p = err_from_is_err_and c.from_residual-in_err-next.result c.from_residual-in_err-next.ensures.1 in
    let told = c.in_err-next.ensures in
    rw (p.1, p.2) (Sentences.block_refused g.K.Keeper.limits c.args.node _ _ _ _ c.requires.starts h _ _ _ _ c.advance.ensures.moves colon.ahead _ _ colon.moves _ c.in_err-next.field-0.0 (Sentences.part_refused g.K.Keeper.limits c.args.node body _ _ _ _ _ _ _ _ c.in-Some.due c.in-Some.is c.loop-next.invariant.0 c.in_err-next.field-0.0 told.goes))

pub returns : goal.returns
returns g c =
    let h = sym (ap number_in_range c.requires.starts) ∙ c.args.reader.now.parser.numbered in
    let colon = c.in_ok-pass.ensures.passes in
    let z₁ = Runs.one_word c.args.reader.now.parser.place c.args.reader.now.parser.word (w.Node c.args.node) _ _ c.requires.starts refl c.advance.ensures.size in
    let z₂ = Runs.one_word c.advance.new.self.parser.place c.advance.new.self.parser.word w.Colon _ _ colon.ahead refl colon.taken in
    record {
      goes = Sentences.block_read g.K.Keeper.limits c.args.node _ _ _ _ c.requires.starts h _ _ _ _ c.advance.ensures.moves colon.ahead _ _ colon.moves _ _ c.in_default.is _ _ _ _ c.loop-next.invariant.0;
      onward = Onward.on _ _ _ (Onward.on _ _ _ c.advance.ensures.onward c.in_ok-pass.ensures.onward) c.loop-next.invariant.1;
      less = λ e. omega (arith, c.loop-next.invariant.2);
    }
