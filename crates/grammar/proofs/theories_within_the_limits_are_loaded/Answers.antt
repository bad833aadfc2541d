use Rattle.grammar.proofs.Loads.{load_fits, fits_load}
use Rattle.grammar.proofs.theories_within_the_limits_are_loaded.Goals as goal

pub returns : goal.returns
returns c = λ l S bs. (load_fits l S bs, fits_load l S bs)
