-- The tests of a new question.
use Rattle.std.proofs.Common.{◌≡◌, ◌<◌, ◌≤◌, Bool, true, false, eqb, leb, List, [], ◌∷◌, length, Some, None, Option, refl, subst}
use Rattle.std.proofs.lemmas.Bool.{leb-true, leb-false, and_parts, and_from, eqb-true, eq-eqb}
use Rattle.terms.specs.declared.items.Atom.{Atom}
use Rattle.terms.specs.Limits.{path_limit}
use Rattle.terms.proofs.Impossible.{impossible}
use Rattle.rules.specs.Questions.{Question}
use Rattle.rules.specs.Outcomes.{Stop}
use Rattle.rules.specs.Theorems.{SameQuestionIsEquality}
use Rattle.terms.specs.Maps.{same_atoms}
use Rattle.rules.specs.Evaluation.{same_question, among, barred}

-- a question that passes the tests has at most path-limit atoms
pub passed_narrow : (opened : List Question) (q : Question) → barred opened q ≡ None → length q.path ≤ path_limit
unfolding barred
passed_narrow opened q e = go (leb (length q.path) path_limit) refl e
  where
    go : (b : Bool) → leb (length q.path) path_limit ≡ b
        → ◌≡◌ {A = Option Stop} (elim b [ false ↦ Some Stop.path | true ↦ elim (among q opened) [ true ↦ Some Stop.circular | false ↦ None ] ]) None
        → length q.path ≤ path_limit
    go true t e = leb-true (length q.path) path_limit t
    go false t e = impossible (cc)

-- why a question is barred
abbrev pub Bars : List Question → Question → Option Stop → Type 0
Bars opened q (Some Stop.undefined) = ⊥
Bars opened q (Some Stop.path) = path_limit < length q.path
Bars opened q (Some Stop.circular) = among q opened ≡ true
Bars opened q (Some Stop.depth) = ⊥
Bars opened q (Some Stop.length) = ⊥
Bars opened q None = length q.path ≤ path_limit

pub barred_tells : (opened : List Question) (q : Question) → Bars opened q (barred opened q)
unfolding barred
barred_tells opened q = go (leb (length q.path) path_limit) (among q opened) refl refl
  where
    go : (b c : Bool) → leb (length q.path) path_limit ≡ b → among q opened ≡ c
        → Bars opened q (elim b [ false ↦ Some Stop.path | true ↦ elim c [ true ↦ Some Stop.circular | false ↦ None ] ])
    go true true t e = e
    go true false t e = leb-true (length q.path) path_limit t
    go false c t e = leb-false (length q.path) path_limit t

-- the test of two questions
pub atoms_equal : (x y : List Atom) → same_atoms x y ≡ true → x ≡ y
atoms_equal [] [] e = refl
atoms_equal [] (b ∷ y) e = cc
atoms_equal (a ∷ x) [] e = cc
atoms_equal (a ∷ x) (b ∷ y) e =
    let h = and_parts (eqb a.0 b.0) (same_atoms x y) e in
    let p = eqb-true a.0 b.0 h.0 in
    let r = atoms_equal x y h.1 in
    λ i. record { 0 = p i } ∷ r i

pub questions_equal : (q r : Question) → same_question q r ≡ true → q ≡ r
questions_equal q r e =
    let h = and_parts _ _ e in
    let g = and_parts _ _ h.1 in
    let f = and_parts _ _ g.1 in
    let a = eqb-true _ _ h.0 in
    let b = atoms_equal _ _ g.0 in
    let c = eqb-true _ _ f.0 in
    let d = atoms_equal _ _ f.1 in
    λ i. record { node = record { 0 = a i }; path = b i; context = record { node = record { 0 = c i }; path = d i } }

pub atoms_same : (x : List Atom) → same_atoms x x ≡ true
atoms_same [] = refl
atoms_same (a ∷ x) = and_from (eqb a.0 a.0) (same_atoms x x) (eq-eqb a.0 a.0 refl) (atoms_same x)

question_same : (q : Question) → same_question q q ≡ true
question_same q =
    and_from _ _ (eq-eqb _ _ refl) (and_from _ _ (atoms_same q.path) (and_from _ _ (eq-eqb _ _ refl) (atoms_same q.context.path)))

pub same_question_is_equality_lem : SameQuestionIsEquality
same_question_is_equality_lem q r = (questions_equal q r, λ e. let P : Question → Type 0 = λ x. same_question q x ≡ true in subst P e (question_same q))
