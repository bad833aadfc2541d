use Rattle.terms.proofs.LookUp.{look_up_finds_the_longest_lem}
use Rattle.terms.proofs.look_up_finds_the_longest.Goals as goal

pub returns : goal.returns
returns c = look_up_finds_the_longest_lem
