use Rattle.read_back.proofs.Back.{questions_come_back_lem}
use Rattle.read_back.proofs.questions_come_back.Goals as goal

pub returns : goal.returns
returns c = questions_come_back_lem
