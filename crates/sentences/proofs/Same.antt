-- Questions are compared as the definition does.
use Rattle.std.proofs.Common.{◌≡◌, Bool, true, false, ◌&&◌, eqb, refl, ap, ◌∙◌}
use Rattle.path.specs.Atoms.{atoms_of}
use Rattle.path.proofs.Paths.{pointwise_same}
use Rattle.std.specs.Prelude.{nat_eq}
use Rattle.std.specs.Ordering.{on}
use Rattle.std.specs.Cmp.Lexicographic.{pointwise}
use Rattle.terms.specs.declared.items.Atom.{Atom}
use Rattle.terms.specs.Maps.{same_atoms}
use Rattle.rules.specs.Evaluation.{same_question}
use Rattle.sentences.specs.declared.table.Question.{Question as Kept}
use Rattle.sentences.specs.Kept.{question_of}

-- the nodes are compared first
nodes_first : (b c d : Bool) → (b && (c && d)) ≡ (c && (b && d))
nodes_first true true d = refl
nodes_first true false d = refl
nodes_first false true d = refl
nodes_first false false d = refl

abbrev atoms_eq : Kept → Kept → Bool
atoms_eq q r = pointwise (on (λ (a : Atom). a.0) nat_eq) (atoms_of q.path) (atoms_of r.path)

abbrev global_atoms_eq : Kept → Kept → Bool
global_atoms_eq q r = pointwise (on (λ (a : Atom). a.0) nat_eq) (atoms_of q.global_path) (atoms_of r.global_path)

pub compared : (q r : Kept) → (eqb q.node.0 r.node.0 && (eqb q.global_node.0 r.global_node.0 && (atoms_eq q r && global_atoms_eq q r)))
    ≡ same_question (question_of q) (question_of r)
compared q r =
    ap (λ b. eqb q.node.0 r.node.0 && b)
    (nodes_first (eqb q.global_node.0 r.global_node.0) (atoms_eq q r) (global_atoms_eq q r)
    ∙ ap (λ b. b && (eqb q.global_node.0 r.global_node.0 && global_atoms_eq q r)) (pointwise_same (atoms_of q.path) (atoms_of r.path))
    ∙ ap (λ b. same_atoms (atoms_of q.path) (atoms_of r.path) && (eqb q.global_node.0 r.global_node.0 && b)) (pointwise_same (atoms_of q.global_path) (atoms_of r.global_path)))
