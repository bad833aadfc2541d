-- Sentences at the limits, on both sides of each.
use Rattle.std.specs.Prelude.{◌≡◌, ℕ, zero, suc, true, false, [], replicate, Some, None}
use Rattle.terms.specs.declared.items.Node.{Node}
use Rattle.terms.specs.declared.items.Atom.{Atom}
use Rattle.terms.specs.declared.items.Quoting.TheVariants.{Plain, Quoted}
use Rattle.terms.specs.Terms.{Terms, flat, balanced}
use Rattle.terms.specs.Maps.{Fitting}

abbrev node : ℕ → Node
node n = record { 0 = n }

abbrev atom : ℕ → Atom
atom n = record { 0 = n }

-- so many atoms
abbrev atoms : ℕ → Terms
atoms zero = Terms.done
atoms (suc k) = Terms.atom (atom 4095) (atoms k)

-- so many paths, one in another
abbrev nested : ℕ → Terms
nested zero = Terms.done
nested (suc k) = Terms.path Plain None (nested k) Terms.done

-- a node and a pair, the last of which has the number n
abbrev names : ℕ → Terms
names n = Terms.node Quoted (node 1023) (Terms.path Quoted (Some (node n)) Terms.done Terms.done)

-- Nodes end at 1,023, atoms at 4,095, left paths at 32 atoms, right sides at 64 items, and paths in one another at 4.
pub record SentencesEndAtTheLimits : Type 0 where
  pub all_at_once : Fitting (node 1023) (replicate 32 (atom 4095)) (atoms 64)
  pub names_in_range : Fitting (node 0) [] (names 1023)
  pub nested_4 : Fitting (node 0) [] (nested 4)
  pub node_1024 : Fitting (node 1024) [] Terms.done → ⊥
  pub left_atom_4096 : Fitting (node 0) (replicate 1 (atom 4096)) Terms.done → ⊥
  pub left_path_of_33 : Fitting (node 0) (replicate 33 (atom 0)) Terms.done → ⊥
  pub right_atom_4096 : Fitting (node 0) [] (Terms.atom (atom 4096) Terms.done) → ⊥
  pub right_node_1024 : Fitting (node 0) [] (Terms.node Plain (node 1024) Terms.done) → ⊥
  pub pair_of_node_1024 : Fitting (node 0) [] (names 1024) → ⊥
  pub items_65 : Fitting (node 0) [] (atoms 65) → ⊥
  pub nested_5 : Fitting (node 0) [] (nested 5) → ⊥
  pub balanced_4 : balanced 0 (flat (nested 4)) ≡ true
  pub balanced_5 : balanced 0 (flat (nested 5)) ≡ false
