use Rattle.std.proofs.Common.{[], ◌++◌, take, ◌∙◌, subst}
use Rattle.evaluator.specs.declared.answers.Call.{Call}
use Rattle.evaluator.specs.declared.answers.Call.TheVariants as call
use Rattle.evaluator.specs.Calls.{acts_of}
use Rattle.evaluator.specs.Holds.{CameBy}
use Rattle.evaluator.proofs.Came.{one_more_call}
use Rattle.evaluator.proofs.evaluator.Evaluator.run.Goals as goal

-- what a read past the end of a slice of calls would give
abbrev none : Call
none = call.Begin (record { 0 = 0 }) (record { ref_ptr = (0, 0); now = [] })

pub loop-call-preserved : goal.loop-call-preserved
loop-call-preserved g c =
    let cs = c.args.calls.now in
    let i = c.loop-call.call-index in (
      c.call.ensures.store_stays ∙ c.loop-call.invariant.0,
      λ before a.
          subst (λ l. CameBy g.S.Store.means l c.call.new.self) (one_more_call before cs i none c.loop-call-test.true)
          (c.call.ensures.came (before ++ acts_of (take i cs)) (c.loop-call.invariant.1 before a)),
    )
