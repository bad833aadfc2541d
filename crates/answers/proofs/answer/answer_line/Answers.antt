use Rattle.std.proofs.Common.{sym}
use Rattle.path.specs.Atoms.{atoms_of}
use Rattle.questions.specs.Lines.{names_of}
use Rattle.answers.proofs.Granted.{asked_fits}
use Rattle.answers.proofs.answer.answer_line.Goals as goal

pub answer_question-requires : goal.answer_question-requires
answer_question-requires g c =
    let q = c.in-Ok-Some.asked in
    let read = rw c.in-Ok-Some.field-0-is at c.in-Ok-Some.ensures.reads in
    asked_fits (names_of c.args.names.now) c.args.line.now q.node (atoms_of q.path) (names_of c.read_question.new.names) c.in-Ok-Some.ensures.rightly (sym read)
