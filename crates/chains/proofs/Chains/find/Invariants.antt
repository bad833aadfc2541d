use Rattle.chains.specs.Last.{up_to}
use Rattle.chains.specs.Held.{buckets_in}
use Rattle.chains.specs.Found.{AnswersBy}
use Rattle.chains.proofs.Walks.{Walk}
use Rattle.chains.proofs.Chains.find.Given as goal

abbrev pub invariant-loop-at : goal.invariant-loop-at
invariant-loop-at g l = Walk (buckets_in l.self) l.bucket (AnswersBy (g.T.Test.answers l.test)) l.at

abbrev pub decreases-loop-at : goal.decreases-loop-at
decreases-loop-at g l = up_to l.at
