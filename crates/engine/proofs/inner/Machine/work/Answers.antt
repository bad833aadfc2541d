use Rattle.std.proofs.Common.{◌≡◌, ◌≤◌, sym, refl, ap, ◌∙◌, subst, arith}
use Rattle.machine.specs.Steps.{next, after, step_of, steps_taken}
use Rattle.machine.specs.Bounds.{not_yet}
use Rattle.engine.specs.States.{progress_of}
use Rattle.engine.specs.Between.{state_in}
use Rattle.engine.proofs.Turns.{asked_on}
use Rattle.engine.proofs.Grants.{after_next, taken_next, over, ended, asks_one}
use Rattle.engine.proofs.inner.Machine.work.Goals as goal

pub loop-steps-init : goal.loop-steps-init
unfolding after steps_taken
loop-steps-init g c = (omega arith, λ b. (b, refl, refl, not_yet))

pub loop-steps-preserved : goal.loop-steps-preserved
loop-steps-preserved g c =
    let M = (g.S.Store.means c.args.store.now).map in
    let m = c.args.self.now in
    let w = c.loop-steps.self in
    let z = c.step-requests.new.self in
    let p = state_in M m in
    let k = c.loop-steps.steps in (
      omega (arith, c.loop-steps.invariant.0, c.step-requests.ensures.bounded),
      λ b.
          let i = c.loop-steps.invariant.1 b in
          let s = c.step-requests.ensures.steps i.0.insides in (
            record { rests = c.step-requests.ensures.rests; insides = s.insides },
            s.state ∙ (ap (next M) i.1 ∙ sym (after_next M k p)),
            taken_next M k p (sym (ap step_of i.1) ∙ asks_one M w c.in-Asks.is) i.2,
            asked_on M (progress_of m) (progress_of w) (progress_of z) k c.loop-steps.requests 1 c.step-requests.result i.3 s.asked,
          ),
    )

pub returns-in_default : goal.returns-in_default
returns-in_default g c =
    let M = (g.S.Store.means c.args.store.now).map in
    let m = c.loop-steps.self in
    let p = state_in M c.args.self.now in
    let k : c.loop-steps.steps ≤ c.args.granted = omega arith in
    record {
      most = k;
      bounded = c.loop-steps.invariant.0;
      went = λ b.
          let i = c.loop-steps.invariant.1 b in
          let e = ended M m i.0.rests c.in_default.not-Asks in
          let o = over M c.loop-steps.steps c.args.granted p k i.2
          (subst (λ x. next M x ≡ x) i.1 e.0) (sym (ap step_of i.1) ∙ e.1) in
          record { between = i.0; state = i.1 ∙ o.same; steps = o.none; asked = i.3 };
    }
