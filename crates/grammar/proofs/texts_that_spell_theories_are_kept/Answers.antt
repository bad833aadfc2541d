use Rattle.grammar.proofs.Naming.{kept_exactly_if_a_theory_is_spelt, names_are_numbered_as_met}
use Rattle.grammar.proofs.texts_that_spell_theories_are_kept.Goals as goal

pub returns : goal.returns
returns c = (kept_exactly_if_a_theory_is_spelt, names_are_numbered_as_met)
