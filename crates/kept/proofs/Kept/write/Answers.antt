use Rattle.std.proofs.Common.{◌≡◌, ◌++◌, length, vec_items, ap, ◌∙◌, arith, length-append, rules}
use Rattle.stores.specs.Sentences.{atoms_in, items_in, sentence}
use Rattle.stores.proofs.Keeps.{atoms_push, items_push}
use Rattle.kept.specs.Contents.{with_sentences}
use Rattle.kept.specs.Parts.{sentences}
use Rattle.kept.proofs.Adds.{put_leaves}
use Rattle.kept.proofs.Kept.write.Goals as goal

pub invariant_of-self : goal.invariant_of-self
invariant_of-self c =
    let s = c.self.inside in
    let rs = vec_items s.records in
    let bs = vec_items s.atoms in
    let is = vec_items s.items in
    let l = c.args.left.now in
    let r = c.args.right.now in
    let t = sentence c.args.node l r in
    let ea : vec_items c.extend_from_slice.new.self ≡ bs ++ l = search rules in
    let ei : vec_items c.extend_from_slice-2.new.self ≡ is ++ r = search rules in
    let p = put_leaves rs _ bs _ l is _ r c.args.node c.len.result c.len-2.result c.push_reserved.ensures.items ea ei (omega arith) (omega arith) c.self.invariant.inside in
    let fa = ap length ea ∙ length-append bs l in
    let fi = ap length ei ∙ length-append is r in
    record {
      records_room = search rules;
      atoms_room = search rules;
      items_room = search rules;
      inside = p.1;
      atoms_sum = ap atoms_in p.0 ∙ atoms_push (sentences rs bs is) t ∙ omega arith;
      items_sum = ap items_in p.0 ∙ items_push (sentences rs bs is) t ∙ omega arith;
    }

pub returns : goal.returns
returns c =
    let s = c.self.inside in
    let rs = vec_items s.records in
    let bs = vec_items s.atoms in
    let is = vec_items s.items in
    let l = c.args.left.now in
    let r = c.args.right.now in
    let ea : vec_items c.extend_from_slice.new.self ≡ bs ++ l = search rules in
    let ei : vec_items c.extend_from_slice-2.new.self ≡ is ++ r = search rules in
    let p = put_leaves rs _ bs _ l is _ r c.args.node c.len.result c.len-2.result c.push_reserved.ensures.items ea ei (omega arith) (omega arith) c.self.invariant.inside in
    rw (← c.self.view_is) (ap (λ v. with_sentences (record { room = s.room; sentences = sentences rs bs is }) v) p.0)
