use Rattle.std.proofs.Common.{◌≡◌, [], ◌∷◌, ◌++◌, length, ap, ◌∙◌, arith}
use Rattle.terms.specs.Maps.{every}
use Rattle.stores.specs.Sentences.{sentence}
use Rattle.stores.specs.Refusals.{fits}
use Rattle.stores.specs.declared.refusals.Refusal.TheVariants as refused
use Rattle.stores.proofs.Keeps.{every_push}
use Rattle.kept.specs.Contents.{Contents}
use Rattle.kept.specs.Held.{kept_in, room_in, passes, smaller}
use Rattle.kept.proofs.Rooms.{not_passed}
use Rattle.chains.specs.Entries.{Entries}
use Rattle.chains.specs.Held.{buckets_in}
use Rattle.chains.proofs.Pushes.{pushed}
use Rattle.listed.specs.Held.{held_in}
use Rattle.listed.proofs.Numbers.{takes, once_more, chained_more}
use Rattle.listed.proofs.Listed.put.Goals as goal

pub invariant_of-self-2 : goal.invariant_of-self-2
invariant_of-self-2 c =
    let s = c.args.self.now in
    let ss = held_in s in
    let x = sentence c.args.node c.args.left.now c.args.right.now in
    let k : kept_in c.put.new.self ≡ ss ++ x ∷ [] = ap kept_in c.in_ok-put.ensures.keeps in
    let r = ap (λ (v : Contents). v.room.sentences) c.in_ok-put.ensures.keeps in
    let n = not_passed (passes (smaller c.args.most (room_in s.kept)) ss (length c.args.left.now) (length c.args.right.now)) refused.Full c.in_ok-put.ensures.gives in
    let t = takes s.mask c.hash_of.result c.args.most (room_in s.kept) ss (buckets_in s.chains) _ _ s.chains.width s.chains.room c.bucket_of-bucket.result n s.chained c.bucket_of-bucket.ensures s.wide s.chains_room in
    let e = (pushed s.chains c.push.new.self c.bucket_of-bucket.result c.push.result c.push.ensures.gives c.push.ensures.entries t.0 t.1).1 in
    let w = ap (λ (v : Entries). v.width) e in
    let q = ap (λ (v : Entries). v.room) e in
    record {
      fit = ap (every fits) k ∙ every_push fits ss x s.fit c.requires.fit;
      wide = omega arith;
      chains_room = omega arith;
      chained = chained_more s.mask ss (kept_in c.put.new.self) (buckets_in s.chains) _ x c.bucket_of-bucket.result c.hash_of.result s.chained (ap buckets_in e) c.bucket_of-bucket.ensures c.hash_of.ensures k;
      once = once_more ss (kept_in c.put.new.self) x s.once c.requires.fresh k;
    }
