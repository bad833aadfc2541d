use Rattle.evaluator.proofs.Came.{shown_right}
use Rattle.evaluator.proofs.evaluator.Evaluator.outcome.Goals as goal

pub returns-in-Asks-clause-right : goal.returns-in-Asks-clause-right
returns-in-Asks-clause-right g c = shown_right c.args.self.now

pub returns-in-Has-clause-right : goal.returns-in-Has-clause-right
returns-in-Has-clause-right g c = shown_right c.args.self.now

pub returns-in-Stops-clause-right : goal.returns-in-Stops-clause-right
returns-in-Stops-clause-right g c = shown_right c.args.self.now
