use Rattle.rules.proofs.Theorems.{stops_mean_no_derivation_lem}
use Rattle.rules.proofs.stops_mean_no_derivation.Goals as goal

pub returns : goal.returns
returns c = stops_mean_no_derivation_lem
