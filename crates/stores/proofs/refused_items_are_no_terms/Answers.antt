use Rattle.stores.proofs.Closes.{paired_items_are_term_lists, shallow_items_nest_four_deep}
use Rattle.stores.proofs.refused_items_are_no_terms.Goals as goal

pub returns : goal.returns
returns c = (paired_items_are_term_lists, shallow_items_nest_four_deep)
