-- What is left of a bucket whose entries are gone through.
use Rattle.std.specs.Prelude.{ℕ, List}
use Rattle.chains.specs.declared.bucket.Bucket.TheInside.{Inside}
use Rattle.chains.specs.Last.{up_to}
use Rattle.chains.specs.Held.{buckets_in}
use Rattle.chains.specs.Below.{entries_below, IsIn}

abbrev pub entries_left : Inside → List ℕ
entries_left e = entries_below (buckets_in e.chains.now) e.bucket (up_to e.next)

abbrev pub IsInBucket : Inside → Type 0
IsInBucket e = IsIn e.next (buckets_in e.chains.now) e.bucket
