-- There are no more names than there may be.
use Rattle.std.proofs.Common.{◌≤◌, length, vec_items, arith}
use lib.ListN.{length-map}
use Rattle.names.specs.declared.table.NameTable.{NameTable}
use Rattle.names.specs.declared.tables.Names.{Names}
use Rattle.names.specs.Parts.{part_of}
use Rattle.names.specs.Held.{names_in, limit_of}
use Rattle.names.specs.Tables.{nodes_in, atoms_in}

few : (t : NameTable) → length (names_in t) ≤ limit_of t
few t = let a = length-map (vec_items t.parts) (part_of (vec_items t.bytes)) in let b = t.parts.ok.0 in let c = t.few in omega arith

pub few_nodes : (n : Names) → length (nodes_in n) ≤ 1024
few_nodes n = let a = few n.nodes in let b = n.node_limit in omega arith

pub few_atoms : (n : Names) → length (atoms_in n) ≤ 4096
few_atoms n = let a = few n.atoms in let b = n.atom_limit in omega arith
