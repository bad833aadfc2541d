use Rattle.rules.proofs.Examples.{open_sentences_end_at_96, values_end_at_256, paths_end_at_32}
use Rattle.rules.proofs.limits_end_where_they_say.Goals as goal

pub returns : goal.returns
returns c = (open_sentences_end_at_96, (values_end_at_256, paths_end_at_32))
