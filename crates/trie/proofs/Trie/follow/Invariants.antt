use Rattle.std.proofs.Common.{◌≡◌, ℕ, ◌<◌, ◌≤◌, List, ◌++◌, map, length, take, Some}
use Rattle.trie.specs.Held.{edges_in, place_in, Grows}
use Rattle.trie.specs.Ways.{num}
use Rattle.trie.proofs.Trie.follow.Given as goal

abbrev pub invariant-loop-atom : goal.invariant-loop-atom
invariant-loop-atom l =
    Grows l.initial.self l.self l.atom-index
    × ((w : List ℕ) → place_in l.initial.self w ≡ Some l.initial.at → place_in l.self (w ++ map num (take l.atom-index l.left)) ≡ Some l.at)
    × (0 < l.at)
    × (l.at ≤ length (edges_in l.self))
