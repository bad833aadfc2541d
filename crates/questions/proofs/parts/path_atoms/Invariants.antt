use Rattle.std.proofs.Common.{is_ok}
use Rattle.words.specs.Texts.{word_count}
use Rattle.questions.specs.Lines.{names_of}
use Rattle.questions.specs.Steps.{words_left}
use Rattle.questions.proofs.Turns.{Reading}
use Rattle.questions.proofs.parts.path_atoms.Given as goal

abbrev pub invariant-loop-next : goal.invariant-loop-next
invariant-loop-next l = Reading (names_of l.initial.names) (words_left l.initial.reader) l.path (is_ok l.held) (names_of l.names) (words_left l.reader)

abbrev pub decreases-loop-next : goal.decreases-loop-next
decreases-loop-next l = word_count (words_left l.reader)
