-- When sentences that are added one by one are all taken.
use Rattle.std.proofs.Common.{◌≡◌, ℕ, ◌+◌, ◌≤◌, Bool, true, false, cond, not, ◌&&◌, ◌||◌, ltb, ◌↔◌, List, [], ◌∷◌, ◌++◌, length, is_some, Some, None, Ok, Option, Result, sym, refl, ap, ◌∙◌, subst, arith}
use Rattle.std.proofs.Math.Bool.{or_assoc, or-false}
use Rattle.std.proofs.lemmas.List.{length_push, append-nil, append_assoc}
use Rattle.std.proofs.lemmas.Bool.{and_parts, and_from, not-true, or_parts, or_from, ltb-false, le-ltb}
use Rattle.terms.specs.Terms.{Terms, terms_of}
use Rattle.terms.specs.Maps.{Map, every}
use Rattle.stores.specs.declared.refusals.Refusal.{Refusal}
use Rattle.stores.specs.declared.refusals.Refusal.TheVariants as refused
use Rattle.stores.specs.Sentences.{Sentence, is_pair, map_of, atoms_in, items_in}
use Rattle.stores.specs.Refusals.{Limits, unfit, fits, over, refusal, or_else, answer}
use Rattle.stores.proofs.Keeps.{answered, atoms_push, items_push}
use Rattle.filling.specs.Fills.{first_refusal, unless, kept_from, apart, Acceptable, Exactly, Filled}
use Rattle.filling.proofs.Maps.{exactly}

some_none : {P : Type 0} (f : Refusal) → ◌≡◌ {A = Option Refusal} (Some f) None → P
some_none f e = absurd (let z : ◌≡◌ {A = ℕ} 0 1 = cc in omega arith)

-- ---- pairs that are kept
abbrev kept_pair : List Sentence → Sentence → Bool
kept_pair ss t = is_some (map_of ss t.node t.left)

some_cond : (b : Bool) (x : Terms) (o : Option Terms) → is_some (cond b (Some x) o) ≡ (b || is_some o)
some_cond true x o = refl
some_cond false x o = refl

pair_more : (ss : List Sentence) (s t : Sentence) → kept_pair (ss ++ s ∷ []) t ≡ (kept_pair ss t || is_pair t.node t.left s)
pair_more [] s t = some_cond (is_pair t.node t.left s) (terms_of s.right) None ∙ or-false (is_pair t.node t.left s)
pair_more (x ∷ ss) s t =
    some_cond (is_pair t.node t.left x) (terms_of x.right) (map_of (ss ++ s ∷ []) t.node t.left)
    ∙ ap (λ b. is_pair t.node t.left x || b) (pair_more ss s t)
    ∙ sym (or_assoc (is_pair t.node t.left x) (kept_pair ss t) (is_pair t.node t.left s))
    ∙ ap (λ b. b || is_pair t.node t.left s) (sym (some_cond (is_pair t.node t.left x) (terms_of x.right) (map_of ss t.node t.left)))

not_or : (a b : Bool) → not (a || b) ≡ (not a && not b)
not_or true b = refl
not_or false b = refl

and_swap : (a b c d : Bool) → ((a && b) && (c && d)) ≡ ((a && c) && (b && d))
and_swap true true c d = refl
and_swap true false true d = refl
and_swap true false false d = refl
and_swap false b c d = refl

-- none of the sentences to come has a pair that is kept
abbrev fresh : List Sentence → List Sentence → Bool
fresh ss ts = every (λ u. not (kept_pair ss u)) ts

fresh_more : (ss ts : List Sentence) (t : Sentence) → fresh (ss ++ t ∷ []) ts ≡ (fresh ss ts && every (λ u. not (is_pair u.node u.left t)) ts)
fresh_more ss [] t = refl
fresh_more ss (u ∷ ts) t =
    ap (λ b. not b && fresh (ss ++ t ∷ []) ts) (pair_more ss t u)
    ∙ ap (λ b. b && fresh (ss ++ t ∷ []) ts) (not_or (kept_pair ss u) (is_pair u.node u.left t))
    ∙ ap (λ b. (not (kept_pair ss u) && not (is_pair u.node u.left t)) && b) (fresh_more ss ts t)
    ∙ and_swap (not (kept_pair ss u)) (not (is_pair u.node u.left t)) (fresh ss ts) (every (λ v. not (is_pair v.node v.left t)) ts)

fresh_none : (ts : List Sentence) → fresh [] ts ≡ true
fresh_none [] = refl
fresh_none (t ∷ ts) = fresh_none ts

-- ---- one sentence
pass_parts : (u : Option Refusal) (b o : Bool) → or_else u (cond b (Some refused.AlreadyKept) (cond o (Some refused.Full) None)) ≡ None → (u ≡ None) × (b ≡ false) × (o ≡ false)
pass_parts (Some f) b o e = some_none f e
pass_parts None true o e = some_none refused.AlreadyKept e
pass_parts None false true e = some_none refused.Full e
pass_parts None false false e = (refl, refl, refl)

fits_unfit : (u : Option Refusal) → not (is_some u) ≡ true → u ≡ None
fits_unfit None e = refl
fits_unfit (Some f) e = absurd (let z : ◌≡◌ {A = ℕ} 0 1 = cc in omega arith)

-- ---- all, with some kept before
record Takes (k : Limits) (ss ts : List Sentence) : Type 0 where
  fit : every fits ts ≡ true
  new : fresh ss ts ≡ true
  pairs : apart ts ≡ true
  sentences : length ss + length ts ≤ k.sentences
  atoms : atoms_in ss + atoms_in ts ≤ k.atoms
  items : items_in ss + items_in ts ≤ k.items

record Holds (k : Limits) (ss : List Sentence) : Type 0 where
  sentences : length ss ≤ k.sentences
  atoms : atoms_in ss ≤ k.atoms
  items : items_in ss ≤ k.items

record One (k : Limits) (ss : List Sentence) (t : Sentence) : Type 0 where
  fit : fits t ≡ true
  new : kept_pair ss t ≡ false
  sentences : length ss + 1 ≤ k.sentences
  atoms : atoms_in ss + length t.left ≤ k.atoms
  items : items_in ss + length t.right ≤ k.items

one_taken : (k : Limits) (ss : List Sentence) (t : Sentence) → refusal k ss t ≡ None → One k ss t
one_taken k ss t e =
    let p = pass_parts (unfit t) (kept_pair ss t) (over k ss t) e in
    let q = or_parts (ltb k.sentences (length ss + 1)) (ltb k.atoms (atoms_in ss + length t.left) || ltb k.items (items_in ss + length t.right)) p.2 in
    let r = or_parts (ltb k.atoms (atoms_in ss + length t.left)) (ltb k.items (items_in ss + length t.right)) q.1 in
    record {
      fit = ap (λ (u : Option Refusal). not (is_some u)) p.0;
      new = p.1;
      sentences = ltb-false k.sentences (length ss + 1) q.0;
      atoms = ltb-false k.atoms (atoms_in ss + length t.left) r.0;
      items = ltb-false k.items (items_in ss + length t.right) r.1;
    }

taken_one : (k : Limits) (ss : List Sentence) (t : Sentence) → One k ss t → refusal k ss t ≡ None
taken_one k ss t w =
    let o : over k ss t ≡ false =
    or_from (ltb k.sentences (length ss + 1)) (ltb k.atoms (atoms_in ss + length t.left) || ltb k.items (items_in ss + length t.right)) (le-ltb k.sentences (length ss + 1) w.sentences)
    (or_from (ltb k.atoms (atoms_in ss + length t.left)) (ltb k.items (items_in ss + length t.right)) (le-ltb k.atoms (atoms_in ss + length t.left) w.atoms) (le-ltb k.items (items_in ss + length t.right) w.items)) in
    ap (λ u. or_else u (cond (kept_pair ss t) (Some refused.AlreadyKept) (cond (over k ss t) (Some refused.Full) None))) (fits_unfit (unfit t) w.fit)
    ∙ ap (λ b. cond b (Some refused.AlreadyKept) (cond (over k ss t) (Some refused.Full) None)) w.new ∙ ap (λ b. cond b (Some refused.Full) None) o

rest_taken : (o rest : Option Refusal) → or_else o rest ≡ None → (o ≡ None) × (rest ≡ None)
rest_taken None rest e = (refl, e)
rest_taken (Some f) rest e = some_none f e

holds_more : (k : Limits) (ss : List Sentence) (t : Sentence) → One k ss t → Holds k (ss ++ t ∷ [])
holds_more k ss t w =
    let a = length_push ss t in
    let b = atoms_push ss t in
    let c = items_push ss t in
    let x = w.sentences in
    let y = w.atoms in
    let z = w.items in
    record { sentences = omega arith; atoms = omega arith; items = omega arith }

taken : (k : Limits) (ss ts : List Sentence) → Holds k ss → first_refusal k ss ts ≡ None → Takes k ss ts
taken k ss [] h e =
    let x = h.sentences in
    let y = h.atoms in
    let z = h.items in
    record { fit = refl; new = refl; pairs = refl; sentences = omega arith; atoms = omega arith; items = omega arith }
taken k ss (t ∷ ts) h e =
    let p = rest_taken (refusal k ss t) (first_refusal k (ss ++ t ∷ []) ts) e in
    let w = one_taken k ss t p.0 in
    let r = taken k (ss ++ t ∷ []) ts (holds_more k ss t w) p.1 in
    let n = and_parts (fresh ss ts) (every (λ u. not (is_pair u.node u.left t)) ts) (sym (fresh_more ss ts t) ∙ r.new) in
    let a = length_push ss t in
    let b = atoms_push ss t in
    let c = items_push ss t in
    let x = r.sentences in
    let y = r.atoms in
    let z = r.items in
    record {
      fit = and_from (fits t) (every fits ts) w.fit r.fit;
      new = and_from (not (kept_pair ss t)) (fresh ss ts) (ap not w.new) n.0;
      pairs = and_from (every (λ u. not (is_pair u.node u.left t)) ts) (apart ts) n.1 r.pairs;
      sentences = omega arith;
      atoms = omega arith;
      items = omega arith;
    }

takes : (k : Limits) (ss ts : List Sentence) → Takes k ss ts → first_refusal k ss ts ≡ None
takes k ss [] w = refl
takes k ss (t ∷ ts) w =
    let f = and_parts (fits t) (every fits ts) w.fit in
    let n = and_parts (not (kept_pair ss t)) (fresh ss ts) w.new in
    let p = and_parts (every (λ u. not (is_pair u.node u.left t)) ts) (apart ts) w.pairs in
    let a = length_push ss t in
    let b = atoms_push ss t in
    let c = items_push ss t in
    let x = w.sentences in
    let y = w.atoms in
    let z = w.items in
    let o = taken_one k ss t (record { fit = f.0; new = not-true (kept_pair ss t) n.0; sentences = omega arith; atoms = omega arith; items = omega arith }) in
    ap (λ u. or_else u (first_refusal k (ss ++ t ∷ []) ts)) o
    ∙ takes k (ss ++ t ∷ []) ts (record {
      fit = f.1;
      new = fresh_more ss ts t ∙ and_from (fresh ss ts) (every (λ u. not (is_pair u.node u.left t)) ts) n.1 p.0;
      pairs = p.1;
      sentences = omega arith;
      atoms = omega arith;
      items = omega arith;
    })

-- ---- from nothing
pub acceptable : (k : Limits) (ts : List Sentence) → (first_refusal k [] ts ≡ None) ↔ Acceptable k ts
acceptable k ts = (
  λ e. let w = taken k [] ts (record { sentences = omega arith; atoms = omega arith; items = omega arith }) e in
      let x = w.sentences in
      let y = w.atoms in
      let z = w.items in
      record { fit = w.fit; pairs = w.pairs; sentences = omega arith; atoms = omega arith; items = omega arith },
  λ w. let x = w.sentences in
      let y = w.atoms in
      let z = w.items in
      takes k [] ts (record { fit = w.fit; new = fresh_none ts; pairs = w.pairs; sentences = omega arith; atoms = omega arith; items = omega arith }),
)

-- all are kept where none is refused
pub all_kept : (k : Limits) (ss ts : List Sentence) → first_refusal k ss ts ≡ None → kept_from k ss ts ≡ ss ++ ts
all_kept k ss [] e = sym (append-nil ss)
all_kept k ss (t ∷ ts) e =
    let p = rest_taken (refusal k ss t) (first_refusal k (ss ++ t ∷ []) ts) e in
    ap (λ u. unless u ss (kept_from k (ss ++ t ∷ []) ts)) p.0 ∙ all_kept k (ss ++ t ∷ []) ts p.1 ∙ append_assoc ss (t ∷ []) ts

-- what filling answers, by what it comes to
pub outcome : (k : Limits) (ts ss : List Sentence) (r : Result (Unit {0}) Refusal) (M : Map) → r ≡ answer (first_refusal k [] ts) → ss ≡ kept_from k [] ts → M ≡ map_of ss
    → ((Acceptable k ts → r ≡ Ok tt) × (r ≡ Ok tt → Acceptable k ts)) × (r ≡ Ok tt → Filled M ts)
outcome k ts ss r M er es em =
    let a = acceptable k ts in
    let none : r ≡ Ok tt → first_refusal k [] ts ≡ None = λ e. answered (first_refusal k [] ts) (sym e ∙ er) in (
      (λ w. er ∙ ap answer (a.1 w), λ e. a.0 (none e)),
      λ e. let w = a.0 (none e) in
          let m : M ≡ map_of ts = em ∙ ap map_of (es ∙ all_kept k [] ts (none e)) in
          record { is = m; has = subst (λ F. Exactly F ts) (sym m) (exactly ts w.fit w.pairs) },
    )
