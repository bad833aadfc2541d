use Rattle.rules.proofs.Keller.{most_specific_is_found_lem}
use Rattle.rules.proofs.most_specific_is_found.Goals as goal

pub returns : goal.returns
returns c = most_specific_is_found_lem
