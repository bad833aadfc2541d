use Rattle.std.proofs.Common.{◌≡◌, None, rules, sym, ◌∙◌, arith}
use Rattle.trie.specs.Held.{edges_in, marks_in}
use Rattle.trie.proofs.Steps.{walk_more}
use Rattle.tree.specs.Held.{kept_in}
use Rattle.tree.proofs.Steps.{deepest_more, deepest_all, deepest_here}
use Rattle.tree.proofs.keep.PrefixTreeStore.find.Goals as goal

pub loop-i-preserved : goal.loop-i-preserved
loop-i-preserved c =
    let t = c.args.self.now.trie in
    let p = c.args.path.now in
    let a = walk_more (edges_in t) c.step-at.result p c.loop-i.i c.loop-i.at c.step-at-in-loop-i.result (omega arith) c.loop-i.invariant.0 c.step-at-in-loop-i.ensures in
    (a, deepest_more (edges_in t) (marks_in t) c.step-at.result p c.loop-i.i c.step-at-in-loop-i.result c.loop-i.best c.better-best-in-loop-i.result a c.loop-i.invariant.1 c.better-best-in-loop-i.ensures)

pub returns : goal.returns
returns c =
    let s = c.args.self.now in
    deepest_all (edges_in s.trie) (marks_in s.trie) (kept_in s) c.args.node c.args.path.now c.step-at.result c.step-at.ensures s.tied c.loop-i.i c.loop-i.best (omega arith) c.loop-i.invariant.1

pub returns-then-is_none : goal.returns-then-is_none
returns-then-is_none c =
    let s = c.args.self.now in
    let t = s.trie in
    let p = c.args.path.now in
    let a = walk_more (edges_in t) c.step-at.result p c.loop-i.i c.loop-i.at c.step-at-in-loop-i.result (omega arith) c.loop-i.invariant.0 c.step-at-in-loop-i.ensures in
    let n : c.step-at-in-loop-i.result ≡ None = search rules in
    deepest_here (edges_in t) (marks_in t) (kept_in s) c.args.node p c.step-at.result c.step-at.ensures s.tied c.loop-i.i c.loop-i.best (omega arith) (sym a ∙ n) c.loop-i.invariant.1
