use Rattle.std.proofs.Common.{arith}
use Rattle.std.proofs.lemmas.Grind.{common_steps}
use Rattle.std.proofs.lemmas.Result.{err_from_is_err_and}
use Rattle.questions.proofs.Turns
use Rattle.questions.proofs.parts.path_atoms.Goals as goal

pub returns-in_err-next-clause-reads : goal.returns-in_err-next-clause-reads
returns-in_err-next-clause-reads c =
    let p = err_from_is_err_and c.from_residual.result c.from_residual.ensures.1 in
    rw (p.1, p.2) (Turns.at_fault _ _ _ _ _ _ c.loop-next.invariant _ _ c.in_err-next.ensures.words)

pub returns-in_err-atom-in-Atom-clause-reads : goal.returns-in_err-atom-in-Atom-clause-reads
returns-in_err-atom-in-Atom-clause-reads c =
    let p = err_from_is_err_and c.from_residual-in_err-atom-in-Atom.result c.from_residual-in_err-atom-in-Atom.ensures.1 in
    rw (p.1, p.2) (Turns.at_refused _ _ _ _ _ _ c.loop-next.invariant _ _ _ _ _ c.in_ok-next.ensures.words c.in-Atom.is _ c.in_err-atom-in-Atom.ensures.gives)

pub loop-next-preserved : goal.loop-next-preserved
loop-next-preserved c =
    Turns.at_atom _ _ _ _ _ _ c.loop-next.invariant _ _ _ _ _ c.in_ok-next.ensures.words c.in-Atom.is _ _ _ _
    c.in_ok-atom-in-Atom.ensures.gives c.in_ok-atom-in-Atom.ensures.names
    (Turns.pushed _ _ _ _ c.push-held.ensures.room c.push-held.ensures.ok c.push-held.ensures.err)

pub returns-in-Greater-clause-reads : goal.returns-in-Greater-clause-reads
returns-in-Greater-clause-reads c = (
  c.loop-next.invariant.atoms,
  (
    Turns.all_held _ _ _ _ _ _ c.loop-next.invariant _ (grind (arith, common_steps)),
    Turns.at_greater _ _ _ _ _ _ c.loop-next.invariant _ _ _ _ c.in_ok-next.ensures.words c.in-Greater.is,
  ),
)

pub returns-in_default : goal.returns-in_default
returns-in_default c = record {
  reads = Turns.at_other _ _ _ _ _ _ c.loop-next.invariant _ _ _ _ c.in_ok-next.ensures.words c.in_default.not-Atom c.in_default.not-Greater;
  grows = c.loop-next.invariant.grows;
}
