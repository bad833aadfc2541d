use Rattle.std.proofs.Common.{◌-◌, ◌<◌, ◌∷◌, take, Some, vec_items, vec_len, sym, ap, ◌∙◌, subst, arith}
use Rattle.std.proofs.lemmas.Bool.Decides.{nat_tests}
use Rattle.machine.specs.Items.{working, reached, took}
use Rattle.sentences.specs.Kept.{position_of}
use Rattle.engine.specs.States.{positions_of, built_in, posed, PlaceInRange}
use Rattle.engine.proofs.Stacks.{positions_last, positions_set}
use Rattle.engine.proofs.Working.{at_work, took_node}
use Rattle.terms.specs.declared.items.Item.TheVariants as item
use Rattle.engine.proofs.inner.Machine.ask_node.Goals as goal

pub advance-requires : goal.advance-requires
advance-requires c =
    let t = c.args.self.now.table in
    let some : 0 < vec_len t = grind (arith, nat_tests) in
    subst PlaceInRange (positions_last (vec_items t) (vec_len t) t.ok.0 some c.in-Some.top.now c.in-Some.ensures.value) c.requires.place

pub returns-in-Some : goal.returns-in-Some
returns-in-Some c =
    let m = c.args.self.now in
    let t = m.table in
    let x = c.in-Some.top.now in
    let q = c.args.quoting in
    let n = c.args.node in
    let r = c.node_asks-asked.result in
    let some : 0 < vec_len t = grind (arith, nat_tests) in
    let below = positions_of (take (vec_len t - 1) (vec_items t)) in
    let e = positions_last (vec_items t) (vec_len t) t.ok.0 some x c.in-Some.ensures.value in
    let s = positions_set (vec_items t) (vec_len t) t.ok.0 some c.advance.new.top in
    c.pose.ensures
    ∙ (ap (λ l. reached (posed r l (built_in m))) (s ∙ ap (λ p. p ∷ below) c.advance.ensures)
    ∙ (took_node (position_of x) below (built_in m) q n r c.node_asks-asked.ensures
    ∙ sym (ap (took (Some (item.Node q n))) (at_work m c.requires.works ∙ ap (λ l. working l (built_in m)) e))))
