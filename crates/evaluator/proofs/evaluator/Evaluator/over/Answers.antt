use Rattle.std.proofs.Common.{refl}
use Rattle.evaluator.specs.Calls.{held_from}
use Rattle.evaluator.proofs.Came.{new}
use Rattle.evaluator.proofs.evaluator.Evaluator.over.Goals as goal

pub returns : goal.returns
unfolding held_from
returns g c = λ means. new means _ (record { held = refl; state = (refl, refl) })
