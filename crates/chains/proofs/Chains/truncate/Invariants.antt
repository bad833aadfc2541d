use Rattle.std.proofs.Common.{◌≡◌, length, take}
use Rattle.chains.specs.Held.{buckets_in}
use Rattle.chains.specs.Entries.{with_buckets}
use Rattle.chains.proofs.Chains.truncate.Given as goal

abbrev pub invariant-loop-self : goal.invariant-loop-self
invariant-loop-self l = with_buckets l.self (take l.entries (buckets_in l.self)) ≡ with_buckets l.initial.self (take l.entries (buckets_in l.initial.self))

abbrev pub decreases-loop-self : goal.decreases-loop-self
decreases-loop-self l = length (buckets_in l.self)
