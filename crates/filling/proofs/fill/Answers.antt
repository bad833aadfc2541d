use Rattle.std.proofs.Common.{◌≡◌, Err, ◌∙◌, rules}
use Rattle.filling.specs.Fills.{sentences_of}
use Rattle.filling.proofs.Accepts.{outcome}
use Rattle.filling.proofs.Fills.{fill_refused, fill_more, fill_all}
use Rattle.filling.proofs.fill.Goals as goal

pub returns-in_err-add : goal.returns-in_err-add
returns-in_err-add g c =
    let p = fill_refused g.K.Keeper.limits c.args.sentences.now _ _ c.loop-s.s-index c.loop-s-test.true c.loop-s.invariant c.in_err-add.field-0.0 c.in_err-add.ensures.gives c.in_err-add.ensures.keeps in
    let e : c.from_residual.result ≡ Err c.in_err-add.field-0.0 = search rules in
    let o = outcome g.K.Keeper.limits (sentences_of c.args.sentences.now) _ _ _ (e ∙ p.0) p.1 (g.met.K.Keeper.meant c.add.new.self) in
    record { gives = e ∙ p.0; keeps = p.1; takes = o.0; means = o.1 }

pub loop-s-preserved : goal.loop-s-preserved
loop-s-preserved g c = fill_more g.K.Keeper.limits c.args.sentences.now _ _ c.loop-s.s-index c.loop-s-test.true c.loop-s.invariant c.in_ok-add.field-0 c.in_ok-add.ensures.gives c.in_ok-add.ensures.keeps

pub returns : goal.returns
returns g c =
    let p = fill_all g.K.Keeper.limits c.args.sentences.now _ c.loop-s.s-index c.loop-s-test.false c.loop-s.invariant in
    let o = outcome g.K.Keeper.limits (sentences_of c.args.sentences.now) _ _ _ p.0 p.1 (g.met.K.Keeper.meant c.loop-s.keeper) in
    record { gives = p.0; keeps = p.1; takes = o.0; means = o.1 }
