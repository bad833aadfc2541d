use Rattle.std.proofs.Common.{◌≤◌, length}
use Rattle.chains.specs.Held.{buckets_in}
use Rattle.chain_cases.proofs.cases.filled.Given as goal

abbrev pub invariant-loop-bucket : goal.invariant-loop-bucket
invariant-loop-bucket l = length (buckets_in l.chains) ≤ l.bucket-index
