use Rattle.std.proofs.Common.{◌≡◌, ◌++◌, take}
use Rattle.path.specs.Atoms.{atoms_of}
use Rattle.path.proofs.Path.extend.Given as goal

abbrev pub invariant-loop-atom : goal.invariant-loop-atom
invariant-loop-atom l = atoms_of l.self ≡ atoms_of l.initial.self ++ take l.atom-index l.more
