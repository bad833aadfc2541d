use Rattle.machine.proofs.Steps.{steps_show_the_outcome_lem, steps_taken_are_reported, steps_add_up}
use Rattle.machine.proofs.steps_show_the_outcome.Goals as goal

pub returns : goal.returns
returns c = (steps_show_the_outcome_lem, (steps_taken_are_reported, steps_add_up))
