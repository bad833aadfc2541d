use Rattle.evaluator.proofs.Came.{called_as}
use Rattle.evaluator.proofs.evaluator.Evaluator.call.Goals as goal

pub returns-in-Begin : goal.returns-in-Begin
returns-in-Begin g c = called_as g.S.Store.means _ _ _ _ _ c.in-Begin.is (c.begin.ensures g.S.Store.means)

pub returns-in-GiveUp : goal.returns-in-GiveUp
returns-in-GiveUp g c = called_as g.S.Store.means _ _ _ _ _ c.in-GiveUp.is (c.give_up.ensures g.S.Store.means)
