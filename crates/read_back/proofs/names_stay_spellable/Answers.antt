use Rattle.read_back.proofs.Back.{names_stay_spellable_lem}
use Rattle.read_back.proofs.names_stay_spellable.Goals as goal

pub returns : goal.returns
returns c = names_stay_spellable_lem
