use Rattle.std.proofs.Common.{◌≡◌, ◌+◌, refl, ap, ◌∙◌, subst, arith}
use Rattle.terms.specs.LookUp.{look_up, length_found}
use Rattle.machine.specs.Bounds.{Asked, not_yet}
use Rattle.engine.specs.States.{progress_of}
use Rattle.engine.proofs.Turns.{left_within, found_insides, found_next, found_asked, turn, rests, work_left_most, asked_on}
use Rattle.engine.proofs.inner.Machine.step.Goals as goal

pub found-requires : goal.found-requires
found-requires g c =
    let M = (g.S.Store.means c.args.store.now).map in
    let l = (g.S.Store.means c.args.store.now).lawful in
    let m = c.args.self.now in
    let e = c.find-left.ensures ∙ ap (λ p. length_found (look_up (M m.asked.node) p)) c.as_slice.ensures in
    record { within = left_within M l m c.requires.asks c.find-left.result e }

pub loop-self-init : goal.loop-self-init
loop-self-init g c = (λ v. (v, refl, not_yet), omega (arith, work_left_most c.found.new.self))

pub loop-self-preserved : goal.loop-self-preserved
loop-self-preserved g c =
    let M = (g.S.Store.means c.args.store.now).map in
    let l = (g.S.Store.means c.args.store.now).lawful in
    let w = c.loop-self.self in (
      λ v.
          let i = c.loop-self.invariant.0 v in
          let t = turn M l w c.in-Works.is i.0 c.turn.new.self (c.turn.ensures.took i.0) in
          (t.insides, t.same ∙ i.1, t.once_more _ 0 c.loop-self.items i.2),
      omega (arith, c.turn.ensures.less, c.loop-self.invariant.1),
    )

pub returns : goal.returns
returns g c =
    let M = (g.S.Store.means c.args.store.now).map in
    let l = (g.S.Store.means c.args.store.now).lawful in
    let m = c.args.self.now in
    let z = c.found.new.self in
    let last = c.loop-self.self in
    let n = c.loop-self.items in
    let e = c.find-left.ensures ∙ ap (λ p. length_found (look_up (M m.asked.node) p)) c.as_slice.ensures in
    record {
      bounded = omega (arith, c.loop-self.invariant.1);
      rests = rests last.phase c.in_default.not-Works;
      steps = λ v.
          let i = c.loop-self.invariant.0 (found_insides M l m c.requires.asks c.find-left.result e z c.found.ensures v) in
          record {
            insides = i.0;
            state = i.1 ∙ found_next M l m c.requires.asks c.find-left.result e z c.found.ensures;
            asked =
                let k : 1 + n ≡ n + 1 = omega arith in
                subst (λ x. Asked M (progress_of m) 1 x (progress_of last)) k
                (asked_on M (progress_of m) (progress_of z) (progress_of last) 1 1 0 n
                (found_asked M l m c.requires.asks c.find-left.result e z c.found.ensures) i.2);
          };
    }
