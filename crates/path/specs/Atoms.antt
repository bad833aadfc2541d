-- The atoms of a path.
use Rattle.std.specs.Prelude.{◌≡◌, ◌<◌, ◌≤◌, List, ◌++◌, length, take, Ok, Err, Result}
use Rattle.terms.specs.declared.items.Atom.{Atom}
use Rattle.terms.specs.Limits.{path_limit}
use Rattle.path.specs.declared.Path.{Path}
use Rattle.path.specs.declared.PathFull.{PathFull}

abbrev pub atoms_of : Path → List Atom
atoms_of p = take p.len p.atoms

-- Atoms put behind a path: all are there; or they have no room, and it is filled with the first of them.
abbrev pub Joined : Result (Unit {0}) PathFull → List Atom → List Atom → List Atom → Type 0
Joined (Ok x) before more after = (after ≡ before ++ more) × (length (before ++ more) ≤ path_limit)
Joined (Err e) before more after = (after ≡ take path_limit (before ++ more)) × (path_limit < length (before ++ more))
