use Rattle.rules.proofs.Keller.{table_derives_as_Keller}
use Rattle.rules.proofs.table_derives_as_keller.Goals as goal

pub returns : goal.returns
returns c = table_derives_as_Keller
