use Rattle.std.proofs.Common.{vec_items, sym, ◌∙◌}
use Rattle.evaluator.proofs.Came.{shown_right, no_value}
use Rattle.evaluator.proofs.evaluator.Evaluator.value.Goals as goal

pub returns-in_default-phase : goal.returns-in_default-phase
returns-in_default-phase g c =
    let e = c.args.self.now in
    record {
      shown = no_value e.question e.machine.phase (vec_items e.machine.value) (λ x. c.in_default-phase.not-Has (c.phase.ensures ∙ sym x));
      right = shown_right e;
    }

pub returns-clause-right : goal.returns-clause-right
returns-clause-right g c = shown_right c.args.self.now
