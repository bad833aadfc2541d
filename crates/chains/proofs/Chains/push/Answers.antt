use Rattle.std.proofs.Common.{vec_items, arith}
use Rattle.chains.proofs.Lasts.{link_pushed}
use Rattle.chains.proofs.Chains.push.Goals as goal

pub invariant_of-self : goal.invariant_of-self
invariant_of-self c =
    let s = c.self.inside in
    let p = link_pushed (vec_items s.heads) (vec_items s.links) _ c.args.bucket c.len-entry.result c.index-before.result.now (omega arith) (omega arith) c.index-before.ensures c.push_reserved.ensures.items c.self.invariant.small c.self.invariant.heads c.self.invariant.befores in
    record { room = omega arith; small = p.0; heads = p.1; befores = p.2 }
