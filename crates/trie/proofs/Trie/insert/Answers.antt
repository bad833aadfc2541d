use Rattle.std.proofs.Common.{◌≡◌, ℕ, ◌+◌, ◌≤◌, List, [], ◌∷◌, length, vec_items, cond, Ok, Err, Some, sym, refl, ap, ◌∙◌, arith}
use Rattle.std.proofs.lemmas.Bool.{lt-ltb}
use lib.ListN.{length-map}
use Rattle.trie.specs.declared.InsertError.TheVariants as refused
use Rattle.trie.specs.Ways.{edge_of, mark_of_lem, lookup, word_of}
use Rattle.trie.specs.Held.{edges_in, marks_in, room_in, place_in}
use Rattle.trie.proofs.Grows.{mark_there, mark_elsewhere}
use Rattle.trie.proofs.Trie.insert.Goals as goal

pub returns : goal.returns
returns c =
    let s = c.args.self.now in
    let l = c.args.left.now in
    let z = length-map (vec_items s.places) edge_of in
    let word = word_of c.args.node l in
    let t = c.follow-place.new.self in
    let u = c.mark.new.self in
    let m = c.make_child-root.ensures in
    let f = c.follow-place.ensures in
    let k = c.mark.ensures in
    let leads : place_in t word ≡ Some c.follow-place.result = f.leads (c.args.node.0 ∷ []) (m.leads [] refl) in
    let x = length-map (vec_items t.places) mark_of_lem in
    let y = length-map (vec_items t.places) edge_of in
    let high : c.follow-place.result ≤ length (marks_in t) = omega arith in
    let ee = ap length k.edges in
    let g = λ (w : List ℕ). ap (λ x. lookup x (marks_in u) w) k.edges ∙ ap (λ x. lookup (edges_in t) x w) k.marks in
    record {
      gives = sym (ap (λ b. cond b (Ok tt) (Err refused.Full)) (lt-ltb (length (edges_in s) + length l) (room_in s) (omega arith)));
      there = g word ∙ mark_there (edges_in t) (marks_in t) word c.follow-place.result c.args.number f.low high leads;
      elsewhere = λ w d. g w ∙ mark_elsewhere (edges_in t) (marks_in t) t.rising word w c.follow-place.result c.args.number f.low leads d ∙ f.grows.same w ∙ m.grows.same w;
      refused = tt;
      more = omega arith;
      room = k.room ∙ f.grows.room ∙ m.grows.room;
    }
