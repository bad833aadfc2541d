use Rattle.chains.proofs.Below.{all_left}
use Rattle.chains.proofs.Chains.bucket.Goals as goal

pub invariant_of-result : goal.invariant_of-result
invariant_of-result c = (all_left _ _ c.last.result c.last.ensures.value).1

pub returns : goal.returns
returns c = (all_left _ _ c.last.result c.last.ensures.value).0
