use Rattle.std.proofs.Common.{◌≡◌, ◌≤◌, length, take}
use Rattle.stores.specs.Items.{items_of}
use Rattle.filling.proofs.read.Given as goal

abbrev pub invariant-loop-n : goal.invariant-loop-n
invariant-loop-n g l =
    (take l.n l.into ≡ take l.n (items_of ((g.S.Store.means l.store).map l.node l.left)))
    × (l.n ≤ length (items_of ((g.S.Store.means l.store).map l.node l.left)))
    × (length l.into ≡ 64)
