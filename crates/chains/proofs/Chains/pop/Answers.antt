use Rattle.std.proofs.Common.{◌-◌, length, vec_items, ap, arith}
use lib.ListN.{length-map}
use Rattle.chains.specs.Linked.{bucket_of}
use Rattle.chains.specs.Held.{buckets_in}
use Rattle.chains.proofs.Lasts.{link_popped}
use Rattle.chains.proofs.Chains.pop.Goals as goal

pub invariant_of-self : goal.invariant_of-self
invariant_of-self c =
    let s = c.self.inside in
    let p = link_popped (vec_items s.heads) (vec_items s.links) _ (c.len-last.result - 1) c.index-link.result.now (let n = length-map (vec_items s.links) bucket_of in let r = c.requires in let v = ap length (ap buckets_in c.self.view_is) in omega arith) c.index-link.ensures c.truncate.ensures.items c.self.invariant.small c.self.invariant.heads c.self.invariant.befores in
    record { room = omega arith; small = p.0; heads = p.1; befores = p.2 }
