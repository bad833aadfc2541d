use Rattle.std.proofs.Common.{◌≡◌, ◌+◌, ◌≤◌}
use Rattle.machine.specs.Bounds.{InsidesMatch, work_left, Asked, asked_limit}
use Rattle.engine.specs.States.{progress_of}
use Rattle.engine.specs.Between.{state_in}
use Rattle.engine.proofs.inner.Machine.step.Given as goal

abbrev pub invariant-loop-self : goal.invariant-loop-self
invariant-loop-self g l =
    (InsidesMatch (g.S.Store.means l.store).map (progress_of l.initial.self)
    → InsidesMatch (g.S.Store.means l.store).map (progress_of l.self)
    × (state_in (g.S.Store.means l.store).map l.self ≡ state_in (g.S.Store.means l.store).map l.initial.self)
    × Asked (g.S.Store.means l.store).map (progress_of l.initial.self) 0 l.items (progress_of l.self))
    × (l.items + work_left (progress_of l.self) + 1 ≤ asked_limit)

abbrev pub decreases-loop-self : goal.decreases-loop-self
decreases-loop-self g l = work_left (progress_of l.self)
