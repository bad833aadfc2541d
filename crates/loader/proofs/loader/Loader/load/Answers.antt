use Rattle.std.proofs.Common.{refl, ◌∙◌}
use Rattle.std.proofs.lemmas.Result.{err_from_is_err_and}
use Rattle.lookahead.specs.Ahead.{names_of}
use Rattle.faults.specs.declared.kinds.LoadFault.TheVariants.{TooLong, Grammar}
use Rattle.lookahead.proofs.Growth
use Rattle.loader.proofs.Theories
use Rattle.loader.proofs.loader.Loader.load.Goals as goal

pub returns-then-text-gt-TEXT_BYTES : goal.returns-then-text-gt-TEXT_BYTES
returns-then-text-gt-TEXT_BYTES g c =
    let e = Theories.too_long g.K.Keeper.limits (names_of c.args.names.now) c.args.text.now c.if-text-gt-TEXT_BYTES.true in
    record { loads = (e, (c.clear.ensures, refl)); right = Theories.told_none _ _ _ _ _ (Growth.still _) TooLong e c.clear.ensures refl }

pub returns-in_err-theory_or_nothing : goal.returns-in_err-theory_or_nothing
returns-in_err-theory_or_nothing g c =
    let p = err_from_is_err_and c.from_residual.result c.from_residual.ensures.1 in
    let told = c.in_err-theory_or_nothing.ensures in
    let e = Theories.not_too_long g.K.Keeper.limits (names_of c.args.names.now) c.args.text.now c.if-text-gt-TEXT_BYTES.false ∙ told.goes in
    record {
      loads = rw (p.1, p.2) (e, told.leaves);
      right = rw (p.1, p.2) (Theories.told_none _ _ _ _ _ (Growth.same_names _ _ told.leaves.1) (Grammar c.in_err-theory_or_nothing.field-0.0) e told.leaves.0 told.leaves.1);
    }

pub returns : goal.returns
returns g c =
    let told = c.in_ok-theory_or_nothing.ensures in
    let e = Theories.not_too_long g.K.Keeper.limits (names_of c.args.names.now) c.args.text.now c.if-text-gt-TEXT_BYTES.false ∙ told.goes in
    record { loads = e; right = Theories.told_all _ _ _ _ _ told.leaves e }
