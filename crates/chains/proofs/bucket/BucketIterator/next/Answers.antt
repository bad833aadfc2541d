use Rattle.std.proofs.Common.{ap, length, arith}
use Rattle.chains.proofs.Below.{next_left}
use Rattle.chains.proofs.bucket.BucketIterator.next.Goals as goal

pub invariant_of-self : goal.invariant_of-self
invariant_of-self c = (next_left _ _ _ _ _ _ c.self.view_is c.self.invariant c.in_ok-entry.was c.before-self-inside.ensures).1

pub returns-clause-steps : goal.returns-clause-steps
returns-clause-steps c = (next_left _ _ _ _ _ _ c.self.view_is c.self.invariant c.in_ok-entry.was c.before-self-inside.ensures).0

pub returns-clause-goes : goal.returns-clause-goes
returns-clause-goes c =
    let n = ap length (next_left _ _ _ _ _ _ c.self.view_is c.self.invariant c.in_ok-entry.was c.before-self-inside.ensures).0 in
    record { on = λ f. (tt, tt, omega arith); keeps = tt; rests = λ f. tt }
