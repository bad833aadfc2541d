use Rattle.terms.proofs.Balance.{balanced_items_are_term_lists_lem, items_read_back}
use Rattle.terms.proofs.balanced_items_are_term_lists.Goals as goal

pub returns : goal.returns
returns c = (balanced_items_are_term_lists_lem, items_read_back)
