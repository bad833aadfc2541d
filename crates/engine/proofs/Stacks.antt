-- The last element of a row, and what a table and a hold are with it.
use Rattle.std.proofs.Common.{◌≡◌, ℕ, ◌+◌, ◌-◌, ◌<◌, Bool, true, false, ◌||◌, leb, List, [], ◌∷◌, ◌++◌, length, get_or, take, set, Some, None, Option, sym, refl, ap, ◌∙◌, arith, length-set}
use Rattle.std.specs.List.{list_any}
use Rattle.std.proofs.lemmas.List.{take_all, take_more, take_more_set}
use Rattle.std.proofs.lemmas.Bool.Decides.{nat_tests}
use Rattle.terms.specs.Limits.{path_limit, open_limit}
use Rattle.rules.specs.Questions.{Question}
use Rattle.rules.specs.Outcomes.{Stop}
use Rattle.rules.specs.Evaluation.{among, same_question, barred}
use Rattle.machine.specs.Steps.{Built, inside, so_far, pose, allowed, asks}
use Rattle.machine.specs.Items.{Position, questions_at}
use Rattle.path.specs.Atoms.{atoms_of}
use Rattle.sentences.specs.declared.table.Question.{Question as Kept}
use Rattle.sentences.specs.declared.table.Open.{Open}
use Rattle.sentences.specs.declared.table.Inside.{Inside}
use Rattle.sentences.specs.Kept.{question_of, position_of, Asks}
use Rattle.engine.specs.States.{stacked, positions_of, built_of, posed}

module _ {X : Type 0} (xs : List X) (n : ℕ) (long : n ≡ length xs) (some : 0 < n) where
  pub split_last : (x : X) → x ≡ get_or xs (n - 1) x → xs ≡ take (n - 1) xs ++ x ∷ []
  split_last x e =
      sym (take_all ((n - 1) + 1) xs (omega arith)) ∙ (take_more xs (n - 1) x (omega arith) ∙ ap (λ y. take (n - 1) xs ++ y ∷ []) (sym e))

  pub set_last : (y : X) → set xs (n - 1) y ≡ take (n - 1) xs ++ y ∷ []
  set_last y =
      sym (take_all ((n - 1) + 1) (set xs (n - 1) y) (omega (arith, length-set xs (n - 1) y))) ∙ take_more_set xs (n - 1) y (omega arith)

stacked_push : (os : List Open) (o : Open) (below : List Position) → stacked (os ++ o ∷ []) below ≡ position_of o ∷ stacked os below
stacked_push [] o below = refl
stacked_push (p ∷ os) o below = stacked_push os o (position_of p ∷ below)

pub positions_push : (os : List Open) (o : Open) → positions_of (os ++ o ∷ []) ≡ position_of o ∷ positions_of os
positions_push os o = stacked_push os o []

pub built_push : (is : List Inside) (i : Inside) (h : Built) → built_of (is ++ i ∷ []) h ≡ inside i.quoting i.node (atoms_of i.atoms) (built_of is h)
built_push [] i h = refl
built_push (j ∷ is) i h = built_push is i (inside j.quoting j.node (atoms_of j.atoms) h)

pub built_so_far : (is : List Inside) (h : Built) → so_far (built_of is h) ≡ so_far h
built_so_far [] h = refl
built_so_far (j ∷ is) h = built_so_far is (inside j.quoting j.node (atoms_of j.atoms) h)

-- a question that a sentence is open for is among theirs
or_moved : (a b c : Bool) → (a || (b || c)) ≡ ((b || a) || c)
or_moved true true c = refl
or_moved true false c = refl
or_moved false true c = refl
or_moved false false c = refl

or_false : (a : Bool) → (a || false) ≡ a
or_false true = refl
or_false false = refl

module _ (q : Question) where
  abbrev pub is_for : Open → Bool
  is_for o = same_question q (question_of o.at)

  among_stacked : (os : List Open) (below : List Position) → among q (questions_at (stacked os below)) ≡ (list_any is_for os || among q (questions_at below))
  among_stacked [] below = refl
  among_stacked (o ∷ os) below =
      among_stacked os (position_of o ∷ below) ∙ or_moved (list_any is_for os) (is_for o) (among q (questions_at below))

  pub any_is_among : (os : List Open) → list_any is_for os ≡ among q (questions_at (positions_of os))
  any_is_among os = sym (among_stacked os [] ∙ or_false (list_any is_for os))

-- a question that is kept, or has too long a path
pub posed_asks : (r : Option Kept) (q : Question) (os : List Position) (h : Built) → Asks r q → posed r os h ≡ pose (questions_at os) q os h
unfolding pose barred
posed_asks None q os h a =
    let e : leb (length q.path) path_limit ≡ false = grind (arith, nat_tests) in
    sym (ap (λ b. allowed (elim b [ false ↦ Some Stop.path | true ↦ elim (among q (questions_at os)) [ true ↦ Some Stop.circular | false ↦ None ] ]) (open_limit - length (questions_at os)) (asks q os h)) e)
posed_asks (Some k) q os h a = ap (λ x. pose (questions_at os) x os h) a.0

-- a table and a hold by their last
module _ (xs : List Open) (n : ℕ) (long : n ≡ length xs) (some : 0 < n) where
  pub positions_last : (x : Open) → x ≡ get_or xs (n - 1) x → positions_of xs ≡ position_of x ∷ positions_of (take (n - 1) xs)
  positions_last x e = ap positions_of (split_last xs n long some x e) ∙ positions_push (take (n - 1) xs) x

  pub positions_set : (y : Open) → positions_of (set xs (n - 1) y) ≡ position_of y ∷ positions_of (take (n - 1) xs)
  positions_set y = ap positions_of (set_last xs n long some y) ∙ positions_push (take (n - 1) xs) y

module _ (xs : List Inside) (n : ℕ) (long : n ≡ length xs) (some : 0 < n) (h : Built) where
  pub built_last : (x : Inside) → x ≡ get_or xs (n - 1) x → built_of xs h ≡ inside x.quoting x.node (atoms_of x.atoms) (built_of (take (n - 1) xs) h)
  built_last x e = ap (λ l. built_of l h) (split_last xs n long some x e) ∙ built_push (take (n - 1) xs) x h

  pub built_set : (y : Inside) → built_of (set xs (n - 1) y) h ≡ inside y.quoting y.node (atoms_of y.atoms) (built_of (take (n - 1) xs) h)
  built_set y = ap (λ l. built_of l h) (set_last xs n long some y) ∙ built_push (take (n - 1) xs) y h

pub none_long : {X : Type 0} (xs : List X) → length xs ≡ 0 → xs ≡ []
none_long [] e = refl
none_long (x ∷ xs) e = absurd (omega arith)

-- what is below the last of a table
pub below_last : (xs : List Open) (n : ℕ) → n ≡ length xs → 0 < n → (o : Position) × (positions_of xs ≡ o ∷ positions_of (take (n - 1) xs))
below_last [] n long some = absurd (omega arith)
below_last (y ∷ ys) n long some = (
  position_of (get_or (y ∷ ys) (n - 1) y),
  ap positions_of (sym (take_all ((n - 1) + 1) (y ∷ ys) (omega arith)) ∙ take_more (y ∷ ys) (n - 1) y (omega arith))
      ∙ positions_push (take (n - 1) (y ∷ ys)) (get_or (y ∷ ys) (n - 1) y),
)
