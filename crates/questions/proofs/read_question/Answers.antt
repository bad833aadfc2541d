use Rattle.std.proofs.Common.{sym, ap}
use Rattle.questions.specs.Lines.{names_left, names_of}
use Rattle.questions.proofs.Growth
use Rattle.questions.proofs.Whole
use Rattle.questions.proofs.Exactly.{is_read_rightly}
use Rattle.questions.proofs.Faulty.{is_refused_rightly}
use Rattle.questions.proofs.read_question.Goals as goal

pub returns-then-line-gt-LINE_BYTES : goal.returns-then-line-gt-LINE_BYTES
returns-then-line-gt-LINE_BYTES c =
    let e = sym (Whole.too_long (names_of c.args.names.now) c.args.line.now c.if-line-gt-LINE_BYTES.true) in
    record { reads = e; names = ap (names_left (names_of c.args.names.now)) e; rightly = is_read_rightly _ _; refused = is_refused_rightly _ _ }

pub returns-then-is_err : goal.returns-then-is_err
returns-then-is_err c =
    let back = Growth.cut_back (names_of c.args.names.now) (names_of c.question-read.new.names) (names_of c.truncate.new.self) _ _ c.question-read.ensures.grows c.node_count-nodes.ensures
    c.atom_count-atoms.ensures c.truncate.ensures.nodes c.truncate.ensures.atoms in
    let h = Whole.refused_line (names_of c.args.names.now) c.args.line.now c.question-read.result (names_of c.question-read.new.names) (names_of c.truncate.new.self) c.if-line-gt-LINE_BYTES.false
    c.question-read.ensures.reads c.if-is_err.ensures.value back in
    record { reads = h.0; names = h.1; rightly = is_read_rightly _ _; refused = is_refused_rightly _ _ }

pub returns-else-is_err : goal.returns-else-is_err
returns-else-is_err c =
    let h = Whole.read_as_asked (names_of c.args.names.now) c.args.line.now c.question-read.result (names_of c.question-read.new.names) c.if-line-gt-LINE_BYTES.false
    c.question-read.ensures.reads c.question-read.ensures.unnamed c.if-is_err.ensures.value in
    record { reads = h.0; names = h.1; rightly = is_read_rightly _ _; refused = is_refused_rightly _ _ }
