use Rattle.std.proofs.Common.{◌≡◌, take}
use Rattle.stores.specs.Sentences.{map_of}
use Rattle.stores.proofs.Longest.{upto}
use Rattle.listed.specs.Hash.{hash_of_lem}
use Rattle.listed.specs.Held.{held_in}
use Rattle.listed.proofs.Listed.find.Given as goal

abbrev pub invariant-loop-i : goal.invariant-loop-i
invariant-loop-i l = (l.hash ≡ hash_of_lem l.node (take l.i l.path)) × (l.best ≡ upto (map_of (held_in l.self) l.node) l.path l.i)
