use Rattle.std.proofs.Common.{refl}
use Rattle.machine.proofs.Asked.{store_is_asked_within_limit_lem}
use Rattle.machine.proofs.store_is_asked_within_limit.Goals as goal

pub returns : goal.returns
returns c = (store_is_asked_within_limit_lem, refl)
