use Rattle.terms.proofs.Boundaries.{sentences_end_at_the_limits_lem}
use Rattle.terms.proofs.sentences_end_at_the_limits.Goals as goal

pub returns : goal.returns
returns c = sentences_end_at_the_limits_lem
