use Rattle.read_back.proofs.Back.{values_come_back_lem}
use Rattle.read_back.proofs.values_come_back.Goals as goal

pub returns : goal.returns
returns c = values_come_back_lem
