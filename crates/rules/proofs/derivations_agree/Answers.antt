use Rattle.rules.proofs.Theorems.{derivations_agree_lem}
use Rattle.rules.proofs.derivations_agree.Goals as goal

pub returns : goal.returns
returns c = derivations_agree_lem
