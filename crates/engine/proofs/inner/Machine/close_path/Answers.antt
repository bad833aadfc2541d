use Rattle.std.proofs.Common.{◌≡◌, ◌-◌, ◌<◌, ◌∷◌, length, take, Some, vec_items, vec_len, sym, ap, ◌∙◌, subst, arith}
use Rattle.std.proofs.lemmas.Bool.Decides.{nat_tests}
use Rattle.machine.specs.Steps.{whole}
use Rattle.machine.specs.Items.{working, reached, took}
use Rattle.path.specs.Atoms.{atoms_of}
use Rattle.sentences.specs.Kept.{position_of}
use Rattle.engine.specs.States.{positions_of, built_of, built_in, posed, PlaceInRange}
use Rattle.engine.proofs.Stacks.{positions_last, positions_set, built_push, none_long}
use Rattle.engine.proofs.Working.{at_work, some_is_open, took_close}
use Rattle.terms.specs.declared.items.Item.TheVariants as item
use Rattle.engine.proofs.inner.Machine.close_path.Goals as goal

pub returns-in_default : goal.returns-in_default
returns-in_default c =
    let m = c.args.self.now in
    let v = whole (vec_items m.value) in
    let none : length (vec_items m.insides) ≡ 0 = grind (arith, nat_tests) in
    let o = some_is_open m c.requires.works in
    sym (ap (took (Some item.Close)) (at_work m c.requires.works ∙ (ap (λ l. working l (built_in m)) o.2 ∙ ap (λ l. working (o.0 ∷ o.1) (built_of l v)) (none_long (vec_items m.insides) none))))

pub advance-requires : goal.advance-requires
advance-requires c =
    let t = c.args.self.now.table in
    let some : 0 < vec_len t = grind (arith, nat_tests) in
    subst PlaceInRange (positions_last (vec_items t) (vec_len t) t.ok.0 some c.in-Some-last_mut.top.now c.in-Some-last_mut.ensures.value) c.requires.place

pub returns-in-Some-last_mut : goal.returns-in-Some-last_mut
returns-in-Some-last_mut c =
    let m = c.args.self.now in
    let t = m.table in
    let x = c.in-Some-last_mut.top.now in
    let i = c.in-Some.inside in
    let r = c.path_asks-asked.result in
    let v = whole (vec_items m.value) in
    let h = built_of (vec_items c.pop.new.self) v in
    let some : 0 < vec_len t = grind (arith, nat_tests) in
    let below = positions_of (take (vec_len t - 1) (vec_items t)) in
    let e = positions_last (vec_items t) (vec_len t) t.ok.0 some x c.in-Some-last_mut.ensures.value in
    let s = positions_set (vec_items t) (vec_len t) t.ok.0 some c.advance.new.top in
    let g = ap (λ l. built_of l v) c.in-Some.ensures.items ∙ built_push (vec_items c.pop.new.self) i v in
    c.pose.ensures
    ∙ (ap (λ l. reached (posed r l h)) (s ∙ ap (λ p. p ∷ below) c.advance.ensures)
    ∙ (took_close (position_of x) below h i.quoting i.node (atoms_of i.atoms) r c.path_asks-asked.ensures
    ∙ sym (ap (took (Some item.Close)) (at_work m c.requires.works ∙ (ap (λ l. working l (built_in m)) e ∙ ap (working (position_of x ∷ below)) g)))))
