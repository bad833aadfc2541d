use Rattle.std.proofs.Common.{Some, sym, refl, ap, ◌∙◌}
use Rattle.evaluator.specs.Calls.{begins, begin_refused}
use Rattle.evaluator.specs.Holds.{shown_by}
use Rattle.evaluator.proofs.Came.{refused_does, passed_does, is_unfinished, not_unfinished, begun}
use Rattle.evaluator.proofs.evaluator.Evaluator.begin.Goals as goal

pub returns-in_default : goal.returns-in_default
returns-in_default g c =
    let e = c.args.self.now in
    λ means. refused_does means e (begins c.args.node c.args.path.now) 12
    (ap (λ b. begin_refused b (shown_by e)) c.in_default.ensures)

pub returns-in-Unfinished : goal.returns-in-Unfinished
returns-in-Unfinished g c =
    let e = c.args.self.now in
    λ means. refused_does means e (begins c.args.node c.args.path.now) 13
    (ap (λ b. begin_refused b (shown_by e)) c.in-Some.ensures.0 ∙ is_unfinished (shown_by e) c.in-Unfinished.ensures.shown)

pub returns : goal.returns
returns g c =
    let e = c.args.self.now in
    let q = c.in-Some.question in
    let f = c.in-Some.ensures in
    λ means. passed_does means e _ (begins c.args.node c.args.path.now)
    (ap (λ b. begin_refused b (shown_by e)) f.0
    ∙ not_unfinished (shown_by e) (λ x. c.in_default-outcome.not-Unfinished (c.outcome.ensures.shown ∙ sym x)))
    refl
    (ap (λ k. Some (record { question = k; granted = 0 })) f.1)
    (λ _. begun (means e.store).map c.restart.new.self q c.restart.ensures.progress c.restart.ensures.phase)
