use Rattle.std.proofs.Common.{◌≡◌, ◌≤◌, length, ◌∙◌, arith}
use Rattle.std.proofs.lemmas.Grind.{common_steps}
use Rattle.std.proofs.lemmas.Result.{err_from_is_err_and}
use Rattle.terms.specs.Limits.{path_limit}
use Rattle.path.specs.Atoms.{atoms_of}
use Rattle.path.proofs.Paths.{length_atoms, filled}
use Rattle.path.proofs.Path.extend.Goals as goal

pub returns-in_err-push : goal.returns-in_err-push
returns-in_err-push c =
    let u = atoms_of c.loop-atom.self in
    let full : path_limit ≤ length u = grind (arith, common_steps) in
    let l : length u ≡ path_limit = omega (arith, length_atoms c.loop-atom.self, c.loop-atom.self.fits) in
    let f = filled (atoms_of c.args.self.now) u c.args.more.now c.loop-atom.atom-index c.loop-atom.invariant l c.loop-atom-test.true in
    let p = err_from_is_err_and c.from_residual.result c.from_residual.ensures.1 in
    rw (p.1) (c.in_err-push.ensures.err ∙ f.0, f.1)
