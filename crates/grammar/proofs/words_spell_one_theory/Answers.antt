use Rattle.grammar.proofs.Sound.{sound}
use Rattle.grammar.proofs.Complete.{complete, single}
use Rattle.grammar.proofs.words_spell_one_theory.Goals as goal

pub returns : goal.returns
returns c = ((λ S bs. (sound S bs, complete S bs)), single)
