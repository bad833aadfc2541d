use Rattle.std.proofs.Common.{◌≡◌, ◌+◌, min, vec_items, refl, arith}
use Rattle.terms.specs.Limits.{step_limit}
use Rattle.evaluator.specs.Calls.{works}
use Rattle.evaluator.proofs.Came.{refused_does, passed_does, idle_yes, idle_no, granted_on, holds_on}
use Rattle.evaluator.proofs.evaluator.Evaluator.work_counting.Goals as goal

pub returns-in_default-clause-does : goal.returns-in_default-clause-does
returns-in_default-clause-does g c =
    let e = c.args.self.now in
    refused_does g.S.Store.means e (works c.args.number) 14 (idle_yes e.question e.machine.phase (vec_items e.machine.value) c.in_default.is)

pub returns-clause-does : goal.returns-clause-does
returns-clause-does g c =
    let e = c.args.self.now in
    let M = (g.S.Store.means e.store).map in
    let q = c.in-Some.field-0 in
    let n = c.min-more.result in
    let m : n ≡ min c.args.number c.saturating_sub.result = c.min-more.ensures in
    let k : e.granted + n ≡ min (e.granted + c.args.number) step_limit = omega (arith, c.saturating_sub.ensures, e.limited) in
    passed_does g.S.Store.means e _ (works c.args.number)
    (idle_no e.question e.machine.phase (vec_items e.machine.value) q c.in-Some.is)
    refl
    (granted_on e.question e.granted c.args.number n k)
    (holds_on M e.machine c.work-worked.new.self e.question q e.granted e.steps n c.work-worked.result c.in-Some.is c.work-worked.ensures.went)
