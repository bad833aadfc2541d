-- The names that a line spells.
use Rattle.std.specs.Prelude.{ℕ, Bool, ◌&&◌, List, [], map, is_some}
use Rattle.std.specs.Option.{unwrap_or}
use Rattle.terms.specs.declared.items.Atom.{Atom}
use Rattle.terms.specs.declared.items.Node.{Node}
use Rattle.terms.specs.Maps.{every}
use Rattle.names.specs.Numbers.{name_at}

-- the name with a number; of no bytes where there is none
abbrev pub name_or_none : List (List ℕ) → ℕ → List ℕ
name_or_none names k = unwrap_or (name_at names k) []

abbrev pub names_of : List (List ℕ) → List Atom → List (List ℕ)
names_of names atoms = map (λ a. name_or_none names a.0) atoms

-- whether an atom has a name
abbrev pub named : List (List ℕ) → Atom → Bool
named names a = is_some (name_at names a.0)

-- whether a node, the atoms of its path and those of a value have names
abbrev pub all_named : List (List ℕ) → List (List ℕ) → Node → List Atom → List Atom → Bool
all_named nodes atoms n path value = is_some (name_at nodes n.0) && (every (named atoms) path && every (named atoms) value)
