use Rattle.std.proofs.Common.{[], ◌∙◌, subst}
use Rattle.evaluator.specs.Calls.{acts_of, held}
use Rattle.evaluator.specs.Holds.{shown_by}
use Rattle.evaluator.specs.Promise.{ByTheRules}
use Rattle.evaluator.proofs.Came.{right_after}
use Rattle.evaluator.proofs.evaluator.runs.evaluate.Goals as goal

pub returns : goal.returns
returns g c =
    let means = g.S.Store.means in
    let z = c.run.new.self in
    let acts = acts_of c.args.calls.now in
    let m = c.over-evaluator.ensures means in
    let o = c.run.ensures.store ∙ m.over in
    let a = c.run.ensures.came [] m.came in
    record {
      over = o;
      came = a;
      right = subst (λ s. ByTheRules (means s).map (held (means s).map acts) (shown_by z) z.steps) o (right_after means acts z a);
    }
