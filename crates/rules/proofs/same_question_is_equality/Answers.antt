use Rattle.rules.proofs.Tests.{same_question_is_equality_lem}
use Rattle.rules.proofs.same_question_is_equality.Goals as goal

pub returns : goal.returns
returns c = same_question_is_equality_lem
