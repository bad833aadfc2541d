use Rattle.std.proofs.Common.{vec_items, refl}
use Rattle.evaluator.specs.Calls.{gives_up}
use Rattle.evaluator.proofs.Came.{refused_does, passed_does, idle_yes, idle_no}
use Rattle.evaluator.proofs.evaluator.Evaluator.give_up.Goals as goal

pub returns-in_default : goal.returns-in_default
returns-in_default g c =
    let e = c.args.self.now in
    λ means. refused_does means e gives_up 14 (idle_yes e.question e.machine.phase (vec_items e.machine.value) c.in_default.is)

pub returns : goal.returns
returns g c =
    let e = c.args.self.now in
    λ means. passed_does means e _ gives_up
    (idle_no e.question e.machine.phase (vec_items e.machine.value) c.in-Some.field-0 c.in-Some.is) refl refl (λ _. (refl, refl))
