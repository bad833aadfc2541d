use Rattle.std.proofs.Common.{◌≡◌, ◌-◌, ◌<◌, ◌∷◌, length, take, None, vec_items, vec_len, sym, ap, ◌∙◌, arith}
use Rattle.machine.specs.Steps.{whole, has}
use Rattle.machine.specs.Items.{working, reached, closed, took}
use Rattle.engine.specs.Phases.{least_open}
use Rattle.engine.specs.States.{parts, positions_of, built_in}
use Rattle.engine.proofs.Stacks.{below_last, built_so_far}
use Rattle.engine.proofs.Working.{at_work, some_position, closed_some}
use Rattle.engine.proofs.inner.Machine.close_sentence.Goals as goal

pub returns-then-below-eq0 : goal.returns-then-below-eq0
returns-then-below-eq0 c =
    let m = c.args.self.now in
    let xs = vec_items m.table in
    let n = vec_len m.table in
    let l : least_open m.phase ≡ 1 = ap least_open c.requires.works in
    let one : length xs ≡ 1 = omega (arith, m.least, m.table.ok.0, c.len-below.ensures, c.if-below-eq0.true) in
    let o = below_last xs n m.table.ok.0 (omega arith) in
    let z : n - 1 ≡ 0 = omega arith in
    sym (ap (took None) (at_work m c.requires.works ∙ ap (λ l. working l (built_in m)) (o.1 ∙ ap (λ k. o.0 ∷ positions_of (take k xs)) z))
    ∙ ap (λ u. reached (has u)) (built_so_far (vec_items m.insides) (whole (vec_items m.value))))

pub returns-else-below-eq0 : goal.returns-else-below-eq0
returns-else-below-eq0 c =
    let m = c.args.self.now in
    let xs = vec_items m.table in
    let n = vec_len m.table in
    let k = c.truncate.new.self in
    let l : least_open m.phase ≡ 1 = ap least_open c.requires.works in
    let some : 0 < n = omega (arith, m.least) in
    let o = below_last xs n m.table.ok.0 some in
    let i : vec_items k ≡ take (n - 1) xs = c.truncate.ensures.items ∙ ap (λ x. take (x - 1) xs) c.len-below.ensures in
    let s = some_position (vec_items k) (omega (arith, k.ok.0, c.truncate.ensures.len, c.len-below.ensures, c.if-below-eq0.false)) in
    ap (λ p. parts p m.asked (vec_items k) (vec_items m.insides) (vec_items m.value)) c.requires.works
    ∙ (sym (closed_some (positions_of (vec_items k)) (built_in m) s)
    ∙ (ap (λ l. closed (positions_of l) (built_in m)) i
    ∙ sym (ap (took None) (at_work m c.requires.works ∙ ap (λ l. working l (built_in m)) o.1))))
