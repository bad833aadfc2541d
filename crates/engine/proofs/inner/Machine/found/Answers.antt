use Rattle.std.proofs.Common.{Some, vec_items, sym, ap, ◌∙◌}
use Rattle.machine.specs.Items.{working}
use Rattle.engine.specs.States.{positions_of, parts, progress_of, built_in, answered}
use Rattle.engine.proofs.Stacks.{positions_push}
use Rattle.engine.proofs.inner.Machine.found.Goals as goal

pub returns-in-Asks-Some : goal.returns-in-Asks-Some
returns-in-Asks-Some c =
    let m = c.args.self.now in
    let k = c.in-Asks-Some.left in
    ap (λ l. working (positions_of l) (built_in m)) c.push_reserved.ensures.items
    ∙ (ap (λ l. working l (built_in m)) (positions_push (vec_items m.table) _)
    ∙ sym (ap (λ l. answered l (progress_of m)) c.in-Asks-Some.is-1
    ∙ ap (λ p. answered (Some k) (parts p m.asked (vec_items m.table) (vec_items m.insides) (vec_items m.value))) c.in-Asks-Some.is-0))
