use Rattle.std.proofs.Common.{Some, sym, ap, ◌∙◌}
use Rattle.machine.specs.Items.{working, took}
use Rattle.engine.specs.States.{positions_in, built_in, top_onward}
use Rattle.engine.proofs.Working.{at_work, some_is_open, took_atom, took_none}
use Rattle.terms.specs.declared.items.Item.TheVariants as item
use Rattle.engine.proofs.inner.Machine.put.Goals as goal

pub returns-in-Ok : goal.returns-in-Ok
returns-in-Ok c =
    let m = c.args.self.now in
    let g = c.gather.new.self in
    let z = c.move_on.new.self in
    let e = c.gather.ensures.table in
    at_work z (c.move_on.ensures.phase ∙ (c.gather.ensures.phase ∙ c.requires.works))
    ∙ (ap (λ t. working t (built_in z)) (c.move_on.ensures.table ∙ ap top_onward e)
    ∙ (ap (working (top_onward (positions_in m))) c.move_on.ensures.built
    ∙ (took_atom (positions_in m) (some_is_open m c.requires.works) (built_in m) (built_in g) c.args.atom c.in-Ok.ensures.gathered
    ∙ sym (ap (took (Some (item.Atom c.args.atom))) (at_work m c.requires.works)))))

pub returns-in-Err : goal.returns-in-Err
returns-in-Err c =
    let m = c.args.self.now in
    took_none (positions_in m) (some_is_open m c.requires.works) (built_in m) (built_in c.gather.new.self) c.args.atom c.in-Err.stop c.in-Err.ensures.gathered
    ∙ sym (ap (took (Some (item.Atom c.args.atom))) (at_work m c.requires.works))
