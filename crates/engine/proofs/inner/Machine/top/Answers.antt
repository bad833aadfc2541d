use Rattle.std.proofs.Common.{◌≡◌, ◌-◌, ◌<◌, get_or, vec_items, vec_len, sym, refl, ap, ◌∙◌, subst, arith}
use Rattle.engine.specs.Phases.{least_open}
use Rattle.engine.specs.States.{Top}
use Rattle.engine.proofs.Stacks.{positions_last}
use Rattle.engine.proofs.inner.Machine.top.Goals as goal

pub returns : goal.returns
returns c =
    let m = c.args.self.now in
    let t = m.table in
    let x = c.index.result.now in
    let l : least_open m.phase ≡ 1 = ap least_open c.requires in
    let some : 0 < vec_len t = omega (arith, m.least) in
    let e : x ≡ get_or (vec_items t) (vec_len t - 1) x = c.index.ensures ∙ ap (λ n. get_or (vec_items t) (n - 1) x) c.len.ensures in
    subst (Top x) (sym (positions_last (vec_items t) (vec_len t) t.ok.0 some x e)) refl
