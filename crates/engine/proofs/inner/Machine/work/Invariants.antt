use Rattle.std.proofs.Common.{◌≡◌, ◌*◌, ◌≤◌}
use Rattle.machine.specs.Steps.{after, steps_taken}
use Rattle.machine.specs.Bounds.{Asked, asked_limit}
use Rattle.engine.specs.States.{progress_of}
use Rattle.engine.specs.Between.{state_in, Between}
use Rattle.engine.proofs.inner.Machine.work.Given as goal

abbrev pub invariant-loop-steps : goal.invariant-loop-steps
invariant-loop-steps g l =
    (l.requests ≤ asked_limit * l.steps)
    × (Between (g.S.Store.means l.store).map l.initial.self
    → Between (g.S.Store.means l.store).map l.self
    × (state_in (g.S.Store.means l.store).map l.self ≡ after (g.S.Store.means l.store).map l.steps (state_in (g.S.Store.means l.store).map l.initial.self))
    × (steps_taken (g.S.Store.means l.store).map l.steps (state_in (g.S.Store.means l.store).map l.initial.self) ≡ l.steps)
    × Asked (g.S.Store.means l.store).map (progress_of l.initial.self) l.steps l.requests (progress_of l.self))
