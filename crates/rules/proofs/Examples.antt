-- The tables of the written-down theories, computed.
use Rattle.std.proofs.Common.{refl}
use Rattle.terms.specs.LookUp.{look_up}
use Rattle.rules.specs.Evaluation.{outcome, ask, work, barred}
use Rattle.rules.specs.Worked.{WorkedTheoryComesTo, LampBySteps}
use Rattle.rules.specs.QuestionTable.{QuestionsAreAsInTheTable}
use Rattle.rules.specs.Boundaries.{OpenSentencesEndAt96, ValuesEndAt256, PathsEndAt32, TestsComeInOrder, TermsAreWorkedFromLeftToRight}

pub worked_theory_comes_to : WorkedTheoryComesTo
unfolding outcome ask work look_up barred
worked_theory_comes_to = refl

pub lamp_by_steps : LampBySteps
unfolding outcome ask work look_up barred
lamp_by_steps = record { unfinished_after_3 = refl; reports_3 = refl; shown_after_4 = refl; reports_4 = refl }

pub questions_are_as_in_the_table_lem : QuestionsAreAsInTheTable
unfolding outcome ask work look_up barred
questions_are_as_in_the_table_lem = refl

pub open_sentences_end_at_96 : OpenSentencesEndAt96
unfolding outcome ask work look_up barred
open_sentences_end_at_96 = (refl, refl)

pub values_end_at_256 : ValuesEndAt256
unfolding outcome ask work look_up barred
values_end_at_256 = (refl, refl, refl, refl)

pub paths_end_at_32 : PathsEndAt32
unfolding outcome ask work look_up barred
paths_end_at_32 = (refl, refl, refl)

pub tests_come_in_order : TestsComeInOrder
unfolding outcome ask work look_up barred
tests_come_in_order = (refl, refl, refl)

pub terms_are_worked_from_left_to_right : TermsAreWorkedFromLeftToRight
unfolding outcome ask work look_up barred
terms_are_worked_from_left_to_right = refl
