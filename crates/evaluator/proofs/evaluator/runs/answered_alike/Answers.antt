use Rattle.evaluator.proofs.Came.{alike}
use Rattle.evaluator.proofs.evaluator.runs.answered_alike.Goals as goal

pub returns : goal.returns
returns g c = λ acts same a b. alike g.S.Store.means g.R.Store.means c.args.one.now c.args.other.now acts same a b
