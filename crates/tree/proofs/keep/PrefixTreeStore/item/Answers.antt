use Rattle.std.proofs.Common.{Some, None, ◌∙◌}
use Rattle.kept.proofs.Firsts.{item_by}
use Rattle.trie.specs.Held.{mark_in}
use Rattle.tree.specs.Held.{kept_in}
use Rattle.tree.proofs.Ties.{mark_first}
use Rattle.tree.proofs.keep.PrefixTreeStore.item.Goals as goal

pub returns-in_err-number : goal.returns-in_err-number
returns-in_err-number c =
    let s = c.args.self.now in
    c.from_residual.ensures ∙ item_by (kept_in s) s.fit c.args.node c.args.left.now None c.args.k (c.in_err-number.ensures ∙ mark_first (mark_in s.trie) (kept_in s) s.tied c.args.node c.args.left.now)

pub returns : goal.returns
returns c =
    let s = c.args.self.now in
    c.item_of.ensures ∙ item_by (kept_in s) s.fit c.args.node c.args.left.now (Some c.in_ok-number.number) c.args.k (c.in_ok-number.ensures ∙ mark_first (mark_in s.trie) (kept_in s) s.tied c.args.node c.args.left.now)
