use Rattle.std.proofs.Common.{◌-◌, map, vec_items, Some, sym, ap, ◌∙◌, subst, rules}
use Rattle.std.proofs.Math.Seq.{map-set_same}
use Rattle.std.proofs.lemmas.List.{map-set}
use Rattle.trie.specs.declared.Place.{Place}
use Rattle.trie.specs.Ways.{edge_of, mark_of_lem, bucket_of_lem, Rising}
use Rattle.trie.proofs.Trie.mark.Goals as goal

pub invariant_of-self : goal.invariant_of-self
invariant_of-self c =
    let s = c.args.self.now in
    let ps = vec_items s.places in
    let p : Place = record { edge = c.index_mut.result.now.edge; mark = Some c.args.number } in
    let e = map-set_same edge_of ps (c.args.place - 1) p c.index_mut.result.now (ap edge_of c.index_mut.ensures.value) in
    record { places_room = search rules; chains_room = s.chains_room; width = s.width; chained = s.chained ∙ ap (map bucket_of_lem) (sym e); rising = subst Rising (sym e) s.rising }

pub returns : goal.returns
returns c =
    let s = c.args.self.now in
    let ps = vec_items s.places in
    let p : Place = record { edge = c.index_mut.result.now.edge; mark = Some c.args.number } in
    record {
      edges = map-set_same edge_of ps (c.args.place - 1) p c.index_mut.result.now (ap edge_of c.index_mut.ensures.value);
      marks = map-set mark_of_lem ps (c.args.place - 1) p;
      room = search rules;
    }
