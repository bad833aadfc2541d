use Rattle.std.proofs.Common.{drop}
use Rattle.filling.proofs.Fills.{Left}
use Rattle.filling.proofs.fill.Given as goal

abbrev pub invariant-loop-s : goal.invariant-loop-s
invariant-loop-s g l = Left g.K.Keeper.limits l.sentences (g.K.Keeper.kept l.keeper) (drop l.s-index l.sentences)
