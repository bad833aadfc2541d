use Rattle.std.proofs.Common.{map, None, vec_items, sym, refl, ap, ◌∙◌, arith}
use lib.ListN.{length-map}
use Rattle.std.proofs.lemmas.List.{map_push}
use Rattle.trie.specs.declared.Place.{Place}
use Rattle.trie.specs.Held.{edges_in, marks_in}
use Rattle.trie.specs.Ways.{edge, edge_of, mark_of_lem}
use Rattle.trie.proofs.Grows.{made_leads, leads_old, child_edge}
use Rattle.trie.proofs.Trie.make_child.Goals as goal

pub returns-in-Some : goal.returns-in-Some
returns-in-Some c =
    let s = c.args.self.now in
    let e = sym c.in-Some.ensures in
    let k = child_edge (edges_in s) c.args.edge.parent c.args.edge.label c.in-Some.place e in
    let x = k.1 in
    let y = k.2 in
    record { grows = record { same = λ w. refl; more = omega arith; room = refl }; leads = λ w h. leads_old (edges_in s) c.args.edge.parent c.args.edge.label c.in-Some.place e w h; low = omega (arith, x); within = omega (arith, x, y) }

pub returns : goal.returns
returns c =
    let s = c.args.self.now in
    let ps = vec_items s.places in
    let place : Place = record { edge = edge c.args.edge.parent c.args.edge.label; mark = None } in
    let ee = ap (map edge_of) c.push_reserved.ensures.items ∙ map_push edge_of ps place in
    let em = ap (map mark_of_lem) c.push_reserved.ensures.items ∙ map_push mark_of_lem ps place in
    let m = length-map ps edge_of in
    let q = length-map ps mark_of_lem in
    let l = length-map (vec_items c.push_reserved.new.self) edge_of in
    let p = made_leads (edges_in s) _ (marks_in s) _ c.args.edge.parent c.args.edge.label c.len.result ee em (omega arith) c.in_default.ensures (omega arith) s.rising c.requires.there in
    record { grows = record { same = p.0; more = p.3; room = refl }; leads = p.1; low = omega arith; within = p.2 }
