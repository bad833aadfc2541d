use Rattle.std.proofs.lemmas.Result.{err_from_is_err_and}
use Rattle.words.specs.Words.{atom}
use Rattle.words.proofs.scan.mark_word.Goals as goal

pub returns-in_err-name-in-Tick-clause-value : goal.returns-in_err-name-in-Tick-clause-value
returns-in_err-name-in-Tick-clause-value c =
    let p = err_from_is_err_and c.from_residual.result c.from_residual.ensures.1 in
    rw (p.1, p.2, c.in-Tick.is) (c.in_err-name-in-Tick.ensures.value atom)

pub returns-in_ok-name-in-Tick-clause-value : goal.returns-in_ok-name-in-Tick-clause-value
returns-in_ok-name-in-Tick-clause-value c = rw c.in-Tick.is (c.in_ok-name-in-Tick.ensures.value atom)
