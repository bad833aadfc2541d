-- The names of nodes and of atoms, each at its number.
use Rattle.std.specs.Prelude.{ℕ, cond, List, Ok, Err, Result}
use Rattle.terms.specs.declared.items.Node.{Node}
use Rattle.terms.specs.declared.items.Atom.{Atom}
use Rattle.terms.specs.Limits.{node_limit, atom_limit}
use Rattle.names.specs.declared.part.NoNumber.{NoNumber}
use Rattle.names.specs.declared.part.NoNumber.TheVariants as refused
use Rattle.names.specs.declared.tables.Names.{Names}
use Rattle.names.specs.Numbers.{number, takes}
use Rattle.names.specs.Held.{names_in}

abbrev pub nodes_in : Names → List (List ℕ)
nodes_in n = names_in n.nodes

abbrev pub atoms_in : Names → List (List ℕ)
atoms_in n = names_in n.atoms

abbrev pub node_or_none : List (List ℕ) → List ℕ → Result Node NoNumber
node_or_none names x = cond (takes node_limit names x) (Ok (record { 0 = number names x })) (Err refused.Full)

abbrev pub atom_or_none : List (List ℕ) → List ℕ → Result Atom NoNumber
atom_or_none names x = cond (takes atom_limit names x) (Ok (record { 0 = number names x })) (Err refused.Full)
