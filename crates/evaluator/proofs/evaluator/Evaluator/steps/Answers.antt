use Rattle.evaluator.proofs.Came.{shown_right}
use Rattle.evaluator.proofs.evaluator.Evaluator.steps.Goals as goal

pub returns-clause-right : goal.returns-clause-right
returns-clause-right g c = shown_right c.args.self.now
