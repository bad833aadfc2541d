-- Sentences at the limits, computed.
use Rattle.std.proofs.Common.{◌≡◌, true, false, refl, arith}
use Rattle.terms.proofs.Impossible.{impossible}
use Rattle.terms.specs.Terms.{balanced}
use Rattle.terms.specs.Boundaries.{SentencesEndAtTheLimits}

never : false ≡ true → ⊥
never e = impossible (cc)

pub sentences_end_at_the_limits_lem : SentencesEndAtTheLimits
unfolding balanced
sentences_end_at_the_limits_lem = record {
  all_at_once = record { node = refl; left_atoms = refl; left_length = omega arith; right_items = refl; right_length = omega arith; right_nesting = omega arith };
  names_in_range = record { node = refl; left_atoms = refl; left_length = omega arith; right_items = refl; right_length = omega arith; right_nesting = omega arith };
  nested_4 = record { node = refl; left_atoms = refl; left_length = omega arith; right_items = refl; right_length = omega arith; right_nesting = omega arith };
  node_1024 = λ f. never f.node;
  left_atom_4096 = λ f. never f.left_atoms;
  left_path_of_33 = λ f. let h = f.left_length in omega arith;
  right_atom_4096 = λ f. never f.right_items;
  right_node_1024 = λ f. never f.right_items;
  pair_of_node_1024 = λ f. never f.right_items;
  items_65 = λ f. let h = f.right_length in omega arith;
  nested_5 = λ f. let h = f.right_nesting in omega arith;
  balanced_4 = refl;
  balanced_5 = refl;
}
