use Rattle.std.proofs.Common.{◌≡◌, Some, [], ◌∷◌, ◌++◌, length, ap, ◌∙◌, arith}
use Rattle.std.proofs.lemmas.List.{length_push}
use Rattle.terms.specs.Maps.{every}
use Rattle.stores.specs.Sentences.{sentence, atoms_in}
use Rattle.stores.specs.Refusals.{fits}
use Rattle.stores.specs.declared.refusals.Refusal.TheVariants as refused
use Rattle.stores.proofs.Keeps.{every_push, atoms_push}
use Rattle.kept.specs.Held as kept
use Rattle.kept.proofs.Rooms.{not_passed}
use Rattle.trie.specs.Ways.{word_of}
use Rattle.trie.proofs.Inserts.{inserted}
use Rattle.trie.specs.Held.{edges_in, mark_in}
use Rattle.tree.specs.Held.{kept_in}
use Rattle.tree.proofs.Ties.{tied_more, takes}
use Rattle.tree.proofs.PrefixTree.put.Goals as goal

pub invariant_of-self-2 : goal.invariant_of-self-2
invariant_of-self-2 c =
    let s = c.args.self.now in
    let x = sentence c.args.node c.args.left.now c.args.right.now in
    let ss = kept_in s in
    let k : kept.kept_in c.put.new.self ≡ ss ++ x ∷ [] = ap kept.kept_in c.in_ok-put.ensures.keeps in
    let ks = ap length k ∙ length_push ss x in
    let ka = ap atoms_in k ∙ atoms_push ss x in
    let m = c.insert.ensures.more in
    let n = not_passed (kept.passes (kept.smaller c.args.most (kept.room_in s.kept)) ss (length c.args.left.now) (length c.args.right.now)) refused.Full c.in_ok-put.ensures.gives in
    let t = takes c.args.most (kept.room_in s.kept) ss _ _ (length (edges_in s.trie)) _ n s.places s.room s.trie_room in
    let o = inserted (mark_in c.insert.new.self (word_of c.args.node c.args.left.now) ≡ Some c.sentences-number.result) _ _ c.insert.result c.insert.ensures.gives t c.insert.ensures.there in
    record {
      fit = ap (every fits) k ∙ every_push fits ss x s.fit c.requires.fit;
      room = ap kept.room_in c.in_ok-put.ensures.keeps ∙ s.room;
      trie_room = c.insert.ensures.room ∙ s.trie_room;
      places = omega arith;
      tied = tied_more (mark_in s.trie) (mark_in c.insert.new.self) ss (kept.kept_in c.put.new.self) x c.sentences-number.result s.tied o c.insert.ensures.elsewhere c.sentences-number.ensures k c.requires.fresh;
    }
