use Rattle.std.proofs.Common.{ap, subst, arith}
use Rattle.chains.specs.Last.{up_to}
use Rattle.chains.proofs.Walks.{Walk, walk_start, walk_back}
use Rattle.chains.proofs.Chains.find.Goals as goal

pub loop-at-init : goal.loop-at-init
loop-at-init g c = walk_start _ _ _ _ c.last-at.ensures.value

pub loop-at-smaller : goal.loop-at-smaller
loop-at-smaller g c =
    let w = walk_back _ _ _ c.in-Some.entry _ (subst (Walk _ _ _) c.in-Some.is c.loop-at.invariant) c.if-passes.ensures c.before-at.ensures in
    let u = w.1 in
    let v = ap up_to c.in-Some.is in
    omega arith

pub loop-at-preserved : goal.loop-at-preserved
loop-at-preserved g c = (walk_back _ _ _ c.in-Some.entry _ (subst (Walk _ _ _) c.in-Some.is c.loop-at.invariant) c.if-passes.ensures c.before-at.ensures).0
