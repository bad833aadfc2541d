use Rattle.std.proofs.Common.{◌++◌, map, take, ap, ◌∙◌, arith}
use Rattle.trie.specs.Held.{place_in}
use Rattle.trie.specs.Ways.{num}
use Rattle.trie.proofs.Steps.{push_more}
use Rattle.trie.proofs.Trie.follow.Goals as goal

pub loop-atom-preserved : goal.loop-atom-preserved
loop-atom-preserved c =
    let v = c.loop-atom.invariant in
    let m = c.make_child-at.ensures in
    let p = c.args.left.now in (
      record { same = λ w. m.grows.same w ∙ v.0.same w; more = omega arith; room = m.grows.room ∙ v.0.room },
      λ w e. ap (place_in c.make_child-at.new.self) (push_more w p c.loop-atom.atom-index c.loop-atom-test.true) ∙ m.leads (w ++ map num (take c.loop-atom.atom-index p)) (v.1 w e),
      m.low,
      m.within,
    )
