use Rattle.std.proofs.Common.{is_some, ap, ◌∙◌}
use Rattle.trie.specs.Held.{mark_in}
use Rattle.tree.specs.Held.{kept_in}
use Rattle.tree.proofs.Ties.{some_marked}
use Rattle.tree.proofs.PrefixTree.has.Goals as goal

pub returns : goal.returns
returns c = let s = c.args.self.now in c.is_some.ensures ∙ ap is_some c.mark_of.ensures ∙ some_marked (mark_in s.trie) (kept_in s) s.tied c.args.node c.args.left.now
