-- Names that stand apart: what is found by the chains is the name's number.
use Rattle.std.proofs.Common.{◌≡◌, ℕ, zero, suc, ◌+◌, ◌<◌, ◌≤◌, Bool, true, false, cond, not, ◌&&◌, eqb, ltb, List, [], ◌∷◌, ◌++◌, map, length, get_or, take, drop, Some, None, Ok, Err, Option, Result, IfSome, IfNone, is_ok, sym, refl, ap, ◌∙◌, subst, arith}
use lib.ListN.{length-map}
use Rattle.std.specs.Option.{unwrap_or}
use Rattle.std.specs.Str.{bytes_eq}
use Rattle.std.proofs.lemmas.List.{at_drop_more, at_drop_all, map_push, take-map, get_or-map}
use Rattle.std.proofs.lemmas.Bool.{and_parts, and_from, eqb-true, eq-eqb, not-true, cond-true, cond-false, lt-ltb}
use Rattle.chains.specs.Entries.{Entries, with_buckets}
use Rattle.chains.specs.Found.{IsLastPassing, AllFailFrom}
use Rattle.chains.specs.declared.PushError.{PushError}
use Rattle.chains.specs.declared.PushError.TheVariants.{NoBucket, Full}
use Rattle.names.specs.Numbers.{number, is_at}
use Rattle.names.specs.Distinct.{none_is, distinct}
use Rattle.names.specs.Hash.{mix, mixed, bucket_of_lem}

same_is : (y x : List ℕ) → bytes_eq y x ≡ true → y ≡ x
same_is [] [] e = refl
same_is [] (x ∷ xs) e = absurd (grind arith)
same_is (y ∷ ys) [] e = absurd (grind arith)
same_is (y ∷ ys) (x ∷ xs) e = let p = and_parts (eqb y x) (bytes_eq ys xs) e in let h = eqb-true y x p.0 in let t = same_is ys xs p.1 in cc

same_self : (x : List ℕ) → bytes_eq x x ≡ true
same_self [] = refl
same_self (x ∷ xs) = and_from (eqb x x) (bytes_eq xs xs) (eq-eqb x x refl) (same_self xs)

other_way : (y x : List ℕ) → bytes_eq y x ≡ false → bytes_eq x y ≡ false
other_way y x e = go (bytes_eq x y) refl
  where
    go : (b : Bool) → bytes_eq x y ≡ b → b ≡ false
    go false t = refl
    go true t =
        let q : x ≡ y = same_is x y t in
        let s : bytes_eq y x ≡ true = subst (λ (z : List ℕ). bytes_eq y z ≡ true) (sym q) (same_self y) in absurd (grind arith)

-- one name more, and fewer names
none_push : (y x : List ℕ) (ys : List (List ℕ)) → none_is y ys ≡ true → bytes_eq y x ≡ false → none_is y (ys ++ x ∷ []) ≡ true
none_push y x [] h e = rw e
none_push y x (z ∷ ys) h e =
    let p = and_parts (not (bytes_eq y z)) (none_is y ys) h in
    and_from (not (bytes_eq y z)) (none_is y (ys ++ x ∷ [])) p.0 (none_push y x ys p.1 e)

pub distinct_push : (ys : List (List ℕ)) (x : List ℕ) → distinct ys ≡ true → length ys ≤ number ys x → distinct (ys ++ x ∷ []) ≡ true
distinct_push [] x h l = refl
distinct_push (y ∷ ys) x h l = let p = and_parts (none_is y ys) (distinct ys) h in go (bytes_eq y x) refl l p.0 (λ k. distinct_push ys x p.1 k)
  where
    go : (b : Bool) → bytes_eq y x ≡ b → suc (length ys) ≤ cond b 0 (suc (number ys x)) → none_is y ys ≡ true → (length ys ≤ number ys x → distinct (ys ++ x ∷ []) ≡ true)
        → none_is y (ys ++ x ∷ []) && distinct (ys ++ x ∷ []) ≡ true
    go true e l n k = absurd (omega arith)
    go false e l n k = and_from (none_is y (ys ++ x ∷ [])) (distinct (ys ++ x ∷ [])) (none_push y x ys n e) (k (omega arith))

none_take : (y : List ℕ) (n : ℕ) (ys : List (List ℕ)) → none_is y ys ≡ true → none_is y (take n ys) ≡ true
none_take y zero ys h = refl
none_take y (suc n) [] h = refl
none_take y (suc n) (z ∷ ys) h =
    let p = and_parts (not (bytes_eq y z)) (none_is y ys) h in
    and_from (not (bytes_eq y z)) (none_is y (take n ys)) p.0 (none_take y n ys p.1)

pub distinct_take : (n : ℕ) (ys : List (List ℕ)) → distinct ys ≡ true → distinct (take n ys) ≡ true
distinct_take zero ys h = refl
distinct_take (suc n) [] h = refl
distinct_take (suc n) (y ∷ ys) h =
    let p = and_parts (none_is y ys) (distinct ys) h in
    and_from (none_is y (take n ys)) (distinct (take n ys)) (none_take y n ys p.0) (distinct_take n ys p.1)

-- ---- along the chain of a name's bucket
pub at_is : (ys : List (List ℕ)) (k : ℕ) (x : List ℕ) → k < length ys → is_at ys k x ≡ bytes_eq (get_or ys k []) x
at_is [] k x h = absurd (omega arith)
at_is (y ∷ ys) zero x h = refl
at_is (y ∷ ys) (suc k) x h = at_is ys k x (omega arith)

pub at_none : (ys : List (List ℕ)) (k : ℕ) (x : List ℕ) → length ys ≤ k → is_at ys k x ≡ false
at_none [] k x h = refl
at_none (y ∷ ys) zero x h = absurd (omega arith)
at_none (y ∷ ys) (suc k) x h = at_none ys k x (omega arith)

-- no name of the others is y
none_at : (y : List ℕ) (ys : List (List ℕ)) (k : ℕ) → none_is y ys ≡ true → is_at ys k y ≡ true → ⊥
none_at y [] k h e = grind arith
none_at y (z ∷ ys) zero h e =
    let p = and_parts (not (bytes_eq y z)) (none_is y ys) h in
    let f : bytes_eq z y ≡ false = other_way y z (not-true (bytes_eq y z) p.0) in grind arith
none_at y (z ∷ ys) (suc k) h e = none_at y ys k (and_parts (not (bytes_eq y z)) (none_is y ys) h).1 e

-- where names stand apart, a name's number is the place where it stands
pub number_at : (ys : List (List ℕ)) (k : ℕ) (x : List ℕ) → distinct ys ≡ true → is_at ys k x ≡ true → number ys x ≡ k
number_at [] k x h e = absurd (grind arith)
number_at (y ∷ ys) zero x h e = cond-true _ _ _ e
number_at (y ∷ ys) (suc k) x h e = let p = and_parts (none_is y ys) (distinct ys) h in go (bytes_eq y x) refl p.0 (number_at ys k x p.1 e)
  where
    go : (b : Bool) → bytes_eq y x ≡ b → none_is y ys ≡ true → number ys x ≡ k → cond b 0 (suc (number ys x)) ≡ suc k
    go true t n i = absurd (none_at x ys k (subst (λ (v : List ℕ). none_is v ys ≡ true) (same_is y x t) n) e)
    go false t n i = ap suc i

-- a name that stands nowhere has the number behind all
pub number_none : (ys : List (List ℕ)) (x : List ℕ) → ((k : ℕ) → k < length ys → is_at ys k x ≡ false) → length ys ≡ number ys x
number_none [] x h = refl
number_none (y ∷ ys) x h = ap suc (number_none ys x (λ k l. h (suc k) (omega arith))) ∙ sym (cond-false _ _ _ (h 0 (omega arith)))

module _ (names : List (List ℕ)) (bs : List ℕ) (x : List ℕ) (eb : bs ≡ map bucket_of_lem names) where
  -- a name stands in no bucket but its own
  pub elsewhere : (k : ℕ) → k < length names → (get_or bs k 0 ≡ bucket_of_lem x → is_at names k x ≡ false) → is_at names k x ≡ false
  elsewhere k l h = go (is_at names k x) refl
    where
      go : (b : Bool) → is_at names k x ≡ b → b ≡ false
      go false t = refl
      go true t =
          let y : get_or names k [] ≡ x = same_is (get_or names k []) x (sym (at_is names k x l) ∙ t) in
          let e : get_or bs k 0 ≡ bucket_of_lem x = ap (λ (v : List ℕ). get_or v k 0) eb ∙ get_or-map bucket_of_lem names k [] 0 l ∙ ap bucket_of_lem y in
          sym t ∙ h e

  -- what the chains find is the name's number, where the test tells whether a name is x
  pub found : distinct names ≡ true → (b : ℕ) → b ≡ bucket_of_lem x → (answers : ℕ → Bool → Type 0) → ((i : ℕ) (t : Bool) → answers i t → t ≡ is_at names i x)
      → (o : Option ℕ) → IfSome o (IsLastPassing bs b answers) → IfNone o (AllFailFrom bs b answers 0) → unwrap_or o (length names) ≡ number names x
  found d b e answers tells (Some i) h n = sym (number_at names i x d (sym (tells i true h.passes)))
  found d b e answers tells None h n =
      let m = ap length eb ∙ length-map names bucket_of_lem in
      number_none names x (λ k l. elsewhere k l (λ q. sym (tells k false (n k (omega arith) (omega arith) (q ∙ sym e)))))

-- ---- the loop of the hash
pub mixed_more : (h k : ℕ) (x : List ℕ) (i : ℕ) → i < length x → k ≡ mix h (get_or x i 0) → mixed k (drop (i + 1) x) ≡ mixed h (drop i x)
mixed_more h k x i l e = ap (λ (v : ℕ). mixed v (drop (i + 1) x)) e ∙ sym (at_drop_more (mixed h) x i 0 l)

pub mixed_all : (h : ℕ) (x : List ℕ) (i : ℕ) → length x ≤ i → mixed h (drop i x) ≡ h
mixed_all h x i l = at_drop_all (mixed h) x i l

-- ---- what the chains and the names are after one more, and after fewer
pub table_push : (names names' : List (List ℕ)) (c c' : Entries) (x : List ℕ) (b : ℕ) (r : Result (Unit {0}) PushError) → c.buckets ≡ map bucket_of_lem names → names' ≡ names ++ x ∷ []
    → b ≡ bucket_of_lem x → r ≡ cond (ltb b c.width) (cond (ltb (length c.buckets) c.room) (Ok tt) (Err Full)) (Err NoBucket) → b < c.width → length names < c.room
    → c' ≡ with_buckets c (cond (is_ok r) (c.buckets ++ b ∷ []) c.buckets) → distinct names ≡ true → length names ≤ number names x
    → (c' ≡ with_buckets c (map bucket_of_lem names')) × (distinct names' ≡ true)
table_push names names' c c' x b r eb en ex er lb ln es d l =
    let n = ap length eb ∙ length-map names bucket_of_lem in
    let t : r ≡ Ok tt = er ∙ cond-true _ _ _ (lt-ltb b c.width lb) ∙ cond-true _ _ _ (lt-ltb (length c.buckets) c.room (omega arith)) in
    let bs : cond (is_ok r) (c.buckets ++ b ∷ []) c.buckets ≡ map bucket_of_lem names' =
    cond-true (is_ok r) _ _ (ap is_ok t) ∙ ap (λ (v : ℕ). c.buckets ++ v ∷ []) ex ∙ ap (λ (v : List ℕ). v ++ bucket_of_lem x ∷ []) eb ∙ sym (map_push bucket_of_lem names x) ∙ ap (map bucket_of_lem) (sym en) in
    (es ∙ ap (with_buckets c) bs, ap distinct en ∙ distinct_push names x d l)

pub table_take : (names names' : List (List ℕ)) (c c' : Entries) (n : ℕ) → c.buckets ≡ map bucket_of_lem names → names' ≡ take n names → c' ≡ with_buckets c (take n c.buckets)
    → distinct names ≡ true → (c' ≡ with_buckets c (map bucket_of_lem names')) × (distinct names' ≡ true)
table_take names names' c c' n eb en es d =
    (es ∙ ap (with_buckets c) (ap (take n) eb ∙ take-map bucket_of_lem n names ∙ ap (map bucket_of_lem) (sym en)), ap distinct en ∙ distinct_take n names d)
