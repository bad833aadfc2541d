use Rattle.std.proofs.Common.{Some, vec_items, sym, ap, ◌∙◌}
use Rattle.machine.specs.Steps.{whole, inside}
use Rattle.machine.specs.Items.{working, took}
use Rattle.engine.specs.States.{positions_in, built_in, built_of, top_onward}
use Rattle.engine.proofs.Stacks.{built_push}
use Rattle.engine.proofs.Working.{at_work, some_is_open, took_open}
use Rattle.terms.specs.declared.items.Item.TheVariants as item
use Rattle.engine.proofs.inner.Machine.open_path.Goals as goal

pub returns : goal.returns
returns c =
    let m = c.args.self.now in
    let z = c.move_on.new.self in
    let v = whole (vec_items m.value) in
    at_work z (c.move_on.ensures.phase ∙ c.requires.works)
    ∙ (ap (λ t. working t (built_in z)) c.move_on.ensures.table
    ∙ (ap (working (top_onward (positions_in m)))
    (c.move_on.ensures.built
    ∙ (ap (λ l. built_of l v) c.push_reserved.ensures.items
    ∙ (built_push (vec_items m.insides) _ v
    ∙ ap (λ u. inside c.args.quoting c.args.node u (built_in m)) c.new.ensures)))
    ∙ (took_open (positions_in m) (some_is_open m c.requires.works) (built_in m) c.args.quoting c.args.node
    ∙ sym (ap (took (Some (item.Open c.args.quoting c.args.node))) (at_work m c.requires.works)))))
