use Rattle.rules.proofs.Examples.{questions_are_as_in_the_table_lem}
use Rattle.rules.proofs.questions_are_as_in_the_table.Goals as goal

pub returns : goal.returns
returns c = questions_are_as_in_the_table_lem
