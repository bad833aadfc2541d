use Rattle.answers.proofs.Kept.{long_lines_need_not_be_kept_lem}
use Rattle.answers.proofs.input.long_lines_need_not_be_kept.Goals as goal

pub returns : goal.returns
returns c = long_lines_need_not_be_kept_lem
