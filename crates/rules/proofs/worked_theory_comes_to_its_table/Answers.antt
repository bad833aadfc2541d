use Rattle.rules.proofs.Examples.{worked_theory_comes_to, lamp_by_steps}
use Rattle.rules.proofs.worked_theory_comes_to_its_table.Goals as goal

pub returns : goal.returns
returns c = (worked_theory_comes_to, lamp_by_steps)
