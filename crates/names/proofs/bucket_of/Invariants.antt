use Rattle.std.proofs.Common.{◌≡◌, ◌<◌, drop}
use Rattle.names.specs.Hash.{mixed}
use Rattle.names.proofs.bucket_of.Given as goal

abbrev pub invariant-loop-b : goal.invariant-loop-b
invariant-loop-b l = (l.hash < 4096) × (mixed l.hash (drop l.b-index l.name) ≡ mixed 0 l.name)
