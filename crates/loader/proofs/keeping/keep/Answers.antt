use Rattle.std.proofs.Common.{refl, ap}
use Rattle.stores.specs.Sentences.{sentence}
use Rattle.faults.specs.Grammar.{number, place}
use Rattle.loader.proofs.LateRefusals.{kept_one, kept_none, late_number}
use Rattle.loader.proofs.keeping.keep.Goals as goal

pub returns-in-Ok : goal.returns-in-Ok
returns-in-Ok g c = record { goes = kept_one _ _ _ _ _ refl c.in-Ok.ensures.gives c.in-Ok.ensures.keeps c.requires }

pub returns-in-Err : goal.returns-in-Err
returns-in-Err g c = record {
  goes = let k = kept_none _ _ _ _ c.in-Err.refusal _ refl c.in-Err.ensures.gives c.in-Err.ensures.keeps c.requires in
      (c.in-Err.refusal, (k.0, (ap number c.from.ensures, (ap place c.from.ensures, k.1))));
}

pub invariant_of-from : goal.invariant_of-from
invariant_of-from g c =
    let l = g.K.Keeper.limits in
    let kept = g.K.Keeper.kept c.args.keeper.now in
    let x = sentence c.args.node c.args.left.now c.args.right.now in
    let k = kept_none l kept (g.K.Keeper.kept c.add.new.self) x c.in-Err.refusal _ refl c.in-Err.ensures.gives c.in-Err.ensures.keeps c.requires in
    record { late = late_number l kept x c.in-Err.refusal k.0 }
