use Rattle.std.proofs.Common.{Some, None, ◌∙◌}
use Rattle.kept.proofs.Firsts.{item_by}
use Rattle.listed.specs.Held.{held_in}
use Rattle.listed.proofs.Listed.item.Goals as goal

pub returns-in_err-number : goal.returns-in_err-number
returns-in_err-number c = let s = c.args.self.now in c.from_residual.ensures ∙ item_by (held_in s) s.fit c.args.node c.args.left.now None c.args.k c.in_err-number.ensures

pub returns : goal.returns
returns c = let s = c.args.self.now in c.item_of.ensures ∙ item_by (held_in s) s.fit c.args.node c.args.left.now (Some c.in_ok-number.number) c.args.k c.in_ok-number.ensures
