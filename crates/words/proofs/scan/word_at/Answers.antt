use Rattle.std.proofs.Common.{◌<◌, length, sym, ◌∙◌, arith}
use Rattle.std.proofs.lemmas.Result.{err_from_is_err_and}
use Rattle.words.specs.Words.{node, atom}
use Rattle.words.proofs.Scanning.{at_capital, at_plain}
use Rattle.words.proofs.scan.word_at.Goals as goal

pub returns-in_err-name-in-Capital-clause-value : goal.returns-in_err-name-in-Capital-clause-value
returns-in_err-name-in-Capital-clause-value c =
    let h : c.args.place < length c.args.text.now = omega arith in
    let p = err_from_is_err_and c.from_residual.result c.from_residual.ensures.1 in
    rw (p.1, p.2) (c.in_err-name-in-Capital.ensures.value node ∙ sym (at_capital _ _ h c.in-Capital.ensures))

pub returns-in_ok-name-in-Capital-clause-value : goal.returns-in_ok-name-in-Capital-clause-value
returns-in_ok-name-in-Capital-clause-value c =
    let h : c.args.place < length c.args.text.now = omega arith in
    c.in_ok-name-in-Capital.ensures.value node ∙ sym (at_capital _ _ h c.in-Capital.ensures)

pub returns-in_err-name-in-Plain-clause-value : goal.returns-in_err-name-in-Plain-clause-value
returns-in_err-name-in-Plain-clause-value c =
    let h : c.args.place < length c.args.text.now = omega arith in
    let p = err_from_is_err_and c.from_residual-in_err-name-in-Plain.result c.from_residual-in_err-name-in-Plain.ensures.1 in
    rw (p.1, p.2) (c.in_err-name-in-Plain.ensures.value atom ∙ sym (at_plain _ _ h c.in-Plain.ensures))

pub returns-in_ok-name-in-Plain-clause-value : goal.returns-in_ok-name-in-Plain-clause-value
returns-in_ok-name-in-Plain-clause-value c =
    let h : c.args.place < length c.args.text.now = omega arith in
    c.in_ok-name-in-Plain.ensures.value atom ∙ sym (at_plain _ _ h c.in-Plain.ensures)
