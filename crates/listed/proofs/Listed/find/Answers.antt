use Rattle.std.proofs.Common.{◌+◌, [], take, refl, arith}
use Rattle.listed.specs.Hash.{mix}
use Rattle.listed.specs.Held.{held_in}
use Rattle.listed.proofs.Numbers.{mixed_more, best_none, best_more, best_all}
use Rattle.listed.proofs.Listed.find.Goals as goal

pub loop-i-init : goal.loop-i-init
loop-i-init c = (c.mixed_with-hash.ensures, best_none (held_in c.args.self.now) c.args.node c.args.path.now [] c.better-best.result refl c.better-best.ensures)

pub loop-i-preserved : goal.loop-i-preserved
loop-i-preserved c =
    let p = c.args.path.now in
    let i = c.loop-i.i in (
      mixed_more (mix 0 c.args.node.0) c.loop-i.hash c.mixed_with-hash-in-loop-i.result p i c.loop-i-test.true c.loop-i.invariant.0 c.mixed_with-hash-in-loop-i.ensures,
      best_more (held_in c.args.self.now) c.args.node p (take (i + 1) p) i c.loop-i.best c.better-best-in-loop-i.result c.loop-i-test.true refl c.loop-i.invariant.1 c.better-best-in-loop-i.ensures,
    )

pub returns : goal.returns
returns c = best_all (held_in c.args.self.now) c.args.node c.args.path.now c.loop-i.i c.loop-i.best (omega arith) c.loop-i.invariant.1
