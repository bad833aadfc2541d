use Rattle.std.proofs.Common.{◌≡◌, drop, Some}
use Rattle.stores.specs.Refusals.{closes}
use Rattle.stores.proofs.fitness.all_close.Given as goal

abbrev pub invariant-loop-item : goal.invariant-loop-item
invariant-loop-item l = closes l.most (Some l.open) (drop l.item-index l.right) ≡ closes l.most (Some 0) l.right
