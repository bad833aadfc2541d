use Rattle.std.proofs.Common.{◌≡◌, List, ◌++◌, take}
use Rattle.evaluator.specs.Calls.{Act, acts_of}
use Rattle.evaluator.specs.Holds.{CameBy}
use Rattle.evaluator.proofs.evaluator.Evaluator.run.Given as goal

abbrev pub invariant-loop-call : goal.invariant-loop-call
invariant-loop-call g l =
    (l.self.store ≡ l.initial.self.store)
    × ((before : List Act) → CameBy g.S.Store.means before l.initial.self
    → CameBy g.S.Store.means (before ++ acts_of (take l.call-index l.calls)) l.self)
