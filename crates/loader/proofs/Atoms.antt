-- The atoms of items.
use Rattle.std.proofs.Common.{◌≡◌, List, ◌++◌, Some, None, Option, refl, ap, Ok, Err, Result}
use Rattle.terms.specs.declared.items.Atom.{Atom}
use Rattle.terms.specs.declared.items.Item.{Item}
use Rattle.terms.specs.Terms.{Terms, flat, done, atom, node, path}
use Rattle.grammar.specs.Parsing.{more_atoms, atoms_of}
use Rattle.loader.specs.declared.collecting.NotAnAtom.{NotAnAtom}
use Rattle.loader.specs.Equations.{collected, Collects}

-- the atoms of a list of terms are those of its items
pub atoms_in_items : (t : Terms) → collected (flat t) ≡ atoms_of t
atoms_in_items done = refl
atoms_in_items (atom a t) = ap (more_atoms a) (atoms_in_items t)
atoms_in_items (node q n t) = refl
atoms_in_items (path q n i t) = refl

-- atoms in front of what is collected
abbrev pub after : List Atom → Option (List Atom) → Option (List Atom)
after ls None = None
after ls (Some ms) = Some (ls ++ ms)

-- items that are not collected are not all atoms
pub not_collected : (is : List Item) (r : Result (Unit {0}) NotAnAtom) (ls : List Atom) → Collects is r ls → ((u : Unit {0}) → r ≡ Ok u → ⊥) → collected is ≡ None
not_collected is (Ok u) ls c n = absurd (n u refl)
not_collected is (Err e) ls c n = c
