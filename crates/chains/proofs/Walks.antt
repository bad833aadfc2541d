-- Going back along a chain in search of the last entry that passes a test.
use Rattle.std.proofs.Common.{◌≡◌, ℕ, zero, suc, ◌+◌, ◌<◌, ◌≤◌, Bool, true, false, cond, eqb, ltb, List, [], ◌∷◌, map, length, get_or, take, Some, None, Option, IfSome, IfNone, sym, refl, ap, ◌∙◌, subst, ⊎_elim, arith}
use lib.ListN.{length-map}
use Rattle.std.proofs.lemmas.List.{length-take-le, get_or-take, get_or-map}
use Rattle.std.proofs.lemmas.Bool.{eqb-true, cond-true, lt-ltb, cases_eq, cases_Bool, eq-eqb}
use Rattle.std.proofs.str.Laws.{order}
use Rattle.chains.specs.Last.{or_here, last_by, earlier, up_to}
use Rattle.chains.specs.Below.{IsIn}
use Rattle.chains.specs.Found.{AllFailFrom, IsLastPassing}
use Rattle.chains.proofs.Lasts.{last_within, last_holds}

-- no element of a bucket stands after the last one of it
after_here : {X : Type 0} (f : X → Bool) (x : X) (xs : List X) (d : X) (b : Bool) (o : Option ℕ) (i : ℕ) → b ≡ f x → ((j : ℕ) → up_to o ≤ j → j < length xs → f (get_or xs j d) ≡ false) → up_to (or_here b o) ≤ i → i < suc (length xs) → f (get_or (x ∷ xs) i d) ≡ false
after_here f x xs d true None zero s h l w = absurd (omega arith)
after_here f x xs d false None zero s h l w = sym s
after_here f x xs d true None (suc i) s h l w = h i (omega arith) (omega arith)
after_here f x xs d false None (suc i) s h l w = h i (omega arith) (omega arith)
after_here f x xs d b (Some j) zero s h l w = absurd (omega arith)
after_here f x xs d b (Some j) (suc i) s h l w = h i (omega arith) (omega arith)

last_after : {X : Type 0} (f : X → Bool) (xs : List X) (d : X) (i : ℕ) → up_to (last_by f xs) ≤ i → i < length xs → f (get_or xs i d) ≡ false
last_after f [] d i l w = absurd (omega arith)
last_after f (x ∷ xs) d i l w = after_here f x xs d (f x) (last_by f xs) i refl (λ j a b. last_after f xs d j a b) l w

-- another name of `IsIn`
abbrev pub In : Option ℕ → List ℕ → ℕ → Type 0
In = IsIn

in_last : (bs : List ℕ) (b : ℕ) (o : Option ℕ) → o ≡ last_by (eqb b) bs → In o bs b
in_last bs b None e = tt
in_last bs b (Some i) e = (last_within (eqb b) bs i (sym e), sym (eqb-true b (get_or bs i 0) (last_holds (eqb b) bs 0 i (sym e))))

-- at an entry of the bucket, those behind which the test fails
pub record Walk (bs : List ℕ) (b : ℕ) (answers : ℕ → Bool → Type 0) (at : Option ℕ) : Type 0 where
  pub inside : In at bs b
  pub behind : AllFailFrom bs b answers (up_to at)

module _ (bs : List ℕ) (b : ℕ) (answers : ℕ → Bool → Type 0) where
  clash : (i : ℕ) → eqb b (get_or bs i 0) ≡ false → get_or bs i 0 ≡ b → ⊥
  clash i e h = let t = eq-eqb b (get_or bs i 0) (sym h) in let z : ◌≡◌ {A = Bool} true false = sym t ∙ e in let y : ◌≡◌ {A = ℕ} 0 1 = cc in omega arith

  pub walk_start : (o : Option ℕ) → o ≡ last_by (eqb b) bs → Walk bs b answers o
  walk_start o e =
      record {
        inside = in_last bs b o e;
        behind = λ i l w h. let u = ap up_to e in absurd (clash i (last_after (eqb b) bs 0 i (omega arith) w) h);
      }

  back_within : (i : ℕ) (o : Option ℕ) → i < length bs → In o (take i bs) b → (up_to o ≤ i) × In o bs b
  back_within i None l q = (omega arith, tt)
  back_within i (Some j) l q =
      let l' : i ≤ length bs = omega arith in
      let n = length-take-le i bs l' in
      let w = q.0 in
      let w' : j < i = omega arith in
      (omega arith, (omega arith, sym (get_or-take i bs j 0 w') ∙ q.1))

  pub walk_back : (i : ℕ) (o : Option ℕ) → Walk bs b answers (Some i) → answers i false → o ≡ earlier bs i → Walk bs b answers o × (up_to o ≤ i)
  walk_back i o h t eo =
      let l = h.inside.0 in
      let g : o ≡ last_by (eqb b) (take i bs) = eo ∙ cond-true (ltb i (length bs)) _ _ (lt-ltb i (length bs) l) ∙ ap (λ v. last_by (eqb v) (take i bs)) h.inside.1 in
      let w = back_within i o l (in_last (take i bs) b o g) in
      let u = ap up_to g in
      let n = length-take-le i bs (omega arith) in (
        record {
          inside = w.1;
          behind = λ k m v q. ⊎_elim
              (λ (a : k < i). absurd (clash k (ap (eqb b) (sym (get_or-take i bs k 0 a)) ∙ last_after (eqb b) (take i bs) 0 k (omega arith) (omega arith)) q))
              (λ (a : i ≤ k). ⊎_elim
              (λ (y : k ≡ i). subst (λ x. answers x false) (sym y) t)
              (λ (y : k ≡ i → ⊥). h.behind k (let z = ⊎_elim {C = suc i ≤ k} (λ (p : i < k). p) (λ (p : k ≤ i). absurd (y (omega arith))) (order i k) in z) v q)
              (cases_eq k i))
              (order k i);
        },
        w.0,
      )

  pub walk_hit : (i : ℕ) → Walk bs b answers (Some i) → answers i true → IsLastPassing bs b answers i
  walk_hit i h t = record { within = h.inside.0; bucket = h.inside.1; passes = t; last = λ k l w q. h.behind k (omega arith) w q }

-- ---- for callers
none_by : {X : Type 0} (f : X → Bool) (xs : List X) (d : X) → ((i : ℕ) → i < length xs → f (get_or xs i d) ≡ false) → last_by f xs ≡ None
none_by f [] d h = refl
none_by f (x ∷ xs) d h = ap (or_here (f x)) (none_by f xs d (λ i l. h (suc i) (omega arith))) ∙ ap (λ v. cond v (Some 0) None) (h 0 (omega arith))

last_is : {X : Type 0} (f : X → Bool) (xs : List X) (d : X) (i : ℕ) → i < length xs → f (get_or xs i d) ≡ true → ((j : ℕ) → i < j → j < length xs → f (get_or xs j d) ≡ false) → last_by f xs ≡ Some i
last_is f [] d i l t h = absurd (omega arith)
last_is f (x ∷ xs) d zero l t h = ap (or_here (f x)) (none_by f xs d (λ i w. h (suc i) (omega arith) (omega arith))) ∙ ap (λ v. cond v (Some 0) None) t
last_is f (x ∷ xs) d (suc i) l t h = ap (or_here (f x)) (last_is f xs d i (omega arith) t (λ j v w. h (suc j) (omega arith) (omega arith)))

-- What `find` finds where entry i stands for element i of a list: the last element that passes f, where the test answers as f does,
-- and the elements that pass f are in the bucket.
module _ {X : Type 0} (f : X → Bool) (h : X → ℕ) (es : List X) (d : X) (bs : List ℕ) (b : ℕ) (answers : ℕ → Bool → Type 0)
    (eb : bs ≡ map h es) (hf : (x : X) → f x ≡ true → eqb b (h x) ≡ true) (told : (i : ℕ) (r : Bool) → i < length es → answers i r → r ≡ f (get_or es i d)) where
  fails : (from : ℕ) → AllFailFrom bs b answers from → (i : ℕ) → from ≤ i → i < length es → f (get_or es i d) ≡ false
  fails from q i l w =
      let n = ap length eb ∙ length-map es h in
      ⊎_elim
      (λ (t : f (get_or es i d) ≡ true).
      let e = eqb-true b (h (get_or es i d)) (hf (get_or es i d) t) in
      let g : get_or bs i 0 ≡ b = ap (λ v. get_or v i 0) eb ∙ get_or-map h es i d 0 w ∙ sym e in
      sym (told i false w (q i l (omega arith) g)))
      (λ (t : f (get_or es i d) ≡ false). t)
      (cases_Bool (f (get_or es i d)))

  pub found_last : (o : Option ℕ) → IfSome o (IsLastPassing bs b answers) → IfNone o (AllFailFrom bs b answers 0) → o ≡ last_by f es
  found_last None s n = sym (none_by f es d (λ i l. fails 0 n i (omega arith) l))
  found_last (Some i) s n =
      let k = ap length eb ∙ length-map es h in
      let w = s.within in
      sym (last_is f es d i (omega arith) (sym (told i true (omega arith) s.passes)) (λ j v u. fails (i + 1) s.last j (omega arith) u))
