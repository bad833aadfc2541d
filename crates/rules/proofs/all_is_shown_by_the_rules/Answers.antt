use Rattle.rules.proofs.Shown.{all_is_shown_by_the_rules_lem}
use Rattle.rules.proofs.all_is_shown_by_the_rules.Goals as goal

pub returns : goal.returns
returns c = all_is_shown_by_the_rules_lem
