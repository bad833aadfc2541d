use Rattle.std.proofs.Common.{[]}
use Rattle.grammar.specs.Parsing.{between}
use Rattle.grammar.specs.Theorems.{FourIsFirst}
use Rattle.grammar.proofs.Loads.{four}
use Rattle.grammar.proofs.Misplaced.{misplaced, misplaced_refused}
use Rattle.grammar.proofs.Naming.{four_is_at_the_first_misplaced_word}
use Rattle.grammar.proofs.refusal_4_is_at_the_first_misplaced_word.Goals as goal

first : FourIsFirst
first l S p f e = misplaced S p f (four l S p (between []) e)

pub returns : goal.returns
returns c = ((λ S p f. (misplaced S p f, misplaced_refused S p)), four_is_at_the_first_misplaced_word first)
