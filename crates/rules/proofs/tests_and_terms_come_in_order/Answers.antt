use Rattle.rules.proofs.Examples.{tests_come_in_order, terms_are_worked_from_left_to_right}
use Rattle.rules.proofs.tests_and_terms_come_in_order.Goals as goal

pub returns : goal.returns
returns c = (tests_come_in_order, terms_are_worked_from_left_to_right)
