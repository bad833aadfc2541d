use Rattle.rules.proofs.Theorems.{derived_values_are_outcomes_lem}
use Rattle.rules.proofs.derived_values_are_outcomes.Goals as goal

pub returns : goal.returns
returns c = derived_values_are_outcomes_lem
