use Rattle.std.proofs.Common.{rules}
use Rattle.chains.specs.Held.{buckets_in}
use Rattle.listed.specs.Held.{held_in}
use Rattle.listed.proofs.Numbers.{number_found}
use Rattle.listed.proofs.Listed.number_of.Goals as goal

pub returns : goal.returns
returns c =
    let s = c.args.self.now in
    number_found s.mask c.args.hash c.bucket_of.result (held_in s) (buckets_in s.chains) c.args.node c.args.left.now _ c.find.result s.chained s.once c.bucket_of.ensures c.requires (λ i r a. search rules) c.find.ensures.found c.find.ensures.none
