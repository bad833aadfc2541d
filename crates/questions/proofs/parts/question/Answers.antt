use Rattle.std.proofs.Common.{Ok, Err}
use Rattle.std.proofs.lemmas.Result.{err_from_is_err_and}
use Rattle.questions.specs.Lines.{names_of}
use Rattle.questions.proofs.Growth
use Rattle.questions.proofs.Whole
use Rattle.questions.proofs.parts.question.Goals as goal

pub returns-in_err-path-in-Node-clause-reads : goal.returns-in_err-path-in-Node-clause-reads
returns-in_err-path-in-Node-clause-reads c =
    let p = err_from_is_err_and c.from_residual-in_err-path-in-Node.result c.from_residual-in_err-path-in-Node.ensures.1 in
    let w = Whole.at_start c.args.line.now c.new-reader.result c.new-reader.ensures.0 c.new-reader.ensures.1 in
    rw (p.1, p.2)
    (Whole.from_node (names_of c.args.names.now) _ (names_of c.path_to_end.new.names) _ _ _ _ _ _ _ w c.in_ok-first.ensures.words c.in-Node.is _ c.in_ok-node-in-Node.ensures.gives
    c.in_ok-node-in-Node.ensures.names (Err c.in_err-path-in-Node.field-0.0) c.in_err-path-in-Node.ensures.reads)

pub returns-in_err-path-in-Node-clause-grows : goal.returns-in_err-path-in-Node-clause-grows
returns-in_err-path-in-Node-clause-grows c = Growth.on _ _ _ (Growth.by_node _ _ _ c.in_ok-node-in-Node.ensures.names) c.in_err-path-in-Node.ensures.grows

pub returns-in_ok-path-in-Node-clause-reads : goal.returns-in_ok-path-in-Node-clause-reads
returns-in_ok-path-in-Node-clause-reads c =
    let w = Whole.at_start c.args.line.now c.new-reader.result c.new-reader.ensures.0 c.new-reader.ensures.1 in
    Whole.from_node (names_of c.args.names.now) _ _ _ _ _ _ _ _ _ w c.in_ok-first.ensures.words c.in-Node.is _ c.in_ok-node-in-Node.ensures.gives
    c.in_ok-node-in-Node.ensures.names (Ok c.in_ok-path-in-Node.path) c.in_ok-path-in-Node.ensures.reads

pub returns-in_ok-path-in-Node-clause-grows : goal.returns-in_ok-path-in-Node-clause-grows
returns-in_ok-path-in-Node-clause-grows c = Growth.on _ _ _ (Growth.by_node _ _ _ c.in_ok-node-in-Node.ensures.names) c.in_ok-path-in-Node.ensures.grows
