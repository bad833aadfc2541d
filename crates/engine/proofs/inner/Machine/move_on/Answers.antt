use Rattle.std.proofs.Common.{◌-◌, ◌<◌, ◌∷◌, take, vec_items, vec_len, sym, ap, ◌∙◌, subst, arith}
use Rattle.std.proofs.lemmas.Bool.Decides.{nat_tests}
use Rattle.engine.specs.States.{positions_of, top_onward, PlaceInRange}
use Rattle.engine.proofs.Stacks.{positions_last, positions_set}
use Rattle.engine.proofs.inner.Machine.move_on.Goals as goal

pub advance-requires : goal.advance-requires
advance-requires c =
    let t = c.args.self.now.table in
    let some : 0 < vec_len t = grind (arith, nat_tests) in
    subst PlaceInRange (positions_last (vec_items t) (vec_len t) t.ok.0 some c.in-Some.top.now c.in-Some.ensures.value) c.requires

pub returns-in-Some-clause-table : goal.returns-in-Some-clause-table
returns-in-Some-clause-table c =
    let t = c.args.self.now.table in
    let some : 0 < vec_len t = grind (arith, nat_tests) in
    positions_set (vec_items t) (vec_len t) t.ok.0 some c.advance.new.top
    ∙ (ap (λ p. p ∷ positions_of (take (vec_len t - 1) (vec_items t))) c.advance.ensures
    ∙ sym (ap top_onward (positions_last (vec_items t) (vec_len t) t.ok.0 some c.in-Some.top.now c.in-Some.ensures.value)))
