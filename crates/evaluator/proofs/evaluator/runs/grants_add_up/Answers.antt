use Rattle.evaluator.proofs.Came.{grants_add_up_lem}
use Rattle.evaluator.proofs.evaluator.runs.grants_add_up.Goals as goal

pub returns : goal.returns
returns c = grants_add_up_lem
