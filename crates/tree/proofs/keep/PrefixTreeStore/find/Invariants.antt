use Rattle.std.proofs.Common.{◌≡◌, map, take}
use Rattle.trie.specs.Held.{edges_in, marks_in}
use Rattle.trie.specs.Ways.{walk, num}
use Rattle.tree.proofs.Steps.{deepest}
use Rattle.tree.proofs.keep.PrefixTreeStore.find.Given as goal

abbrev pub invariant-loop-i : goal.invariant-loop-i
invariant-loop-i l = (l.at ≡ walk (edges_in l.self.trie) l.initial.at (map num (take l.i l.path))) × (l.best ≡ deepest (edges_in l.self.trie) (marks_in l.self.trie) l.initial.at l.path l.i)
