use Rattle.rules.proofs.Theorems.{values_are_derived}
use Rattle.rules.proofs.values_are_derived_within_the_limits.Goals as goal

pub returns : goal.returns
returns c = values_are_derived
