-- What `find` finds among the entries of a bucket: the last that passes the test.
use Rattle.std.proofs.Common.{◌≡◌, ℕ, zero, suc, ◌<◌, ◌≤◌, Bool, true, false, eqb, List, [], ◌∷◌, ◌++◌, length, get_or, drop, Some, None, Option, IfSome, IfNone, sym, refl, ap, ◌∙◌, subst, ⊎_elim, arith, Bor}
use Rattle.std.proofs.lemmas.Bool.{eqb-true, cond-true, cond-false, cases_eq, cases_Bool, eq-eqb}
use denote.Param.Members.{Mut}
use Rattle.std.specs.Fn.{CalledAt, TakesAt}
use Rattle.std.specs.List.{FoldsTo}
use Rattle.std.specs.Iterator.{YieldsFirst, Yields, FindsItem, CallableWhileAt}
use Rattle.chains.specs.Last.{up_to}
use Rattle.chains.specs.Below.{entries_below, IsIn}
use Rattle.chains.specs.Found.{AllFailFrom, IsLastPassing}

abbrev Each : (ℕ → Type 0) → List ℕ → Type 0
Each P [] = Unit {0}
Each P (x ∷ xs) = P x × Each P xs

abbrev first : List ℕ → Option ℕ
first [] = None
first (x ∷ xs) = Some x

head_is : (x y : ℕ) (xs ys : List ℕ) → x ∷ xs ≡ y ∷ ys → x ≡ y
head_is x y xs ys e = ap (λ (l : List ℕ). get_or l 0 0) e

module _ (bs : List ℕ) (b : ℕ) (P : ℕ → Type 0) where
  -- the next to come is an entry of the bucket, if there is one, and P holds of those of the bucket behind it, below n
  abbrev Came : ℕ → List ℕ → Type 0
  Came n rest = IsIn (first rest) bs b × ((j : ℕ) → up_to (first rest) ≤ j → j < n → get_or bs j 0 ≡ b → P j)

  -- one number more
  more : (m : ℕ) (rest : List ℕ) → Came m rest → (get_or bs m 0 ≡ b → P m) → Came (suc m) rest
  more m rest w q = (
    w.0,
    λ j l k c. ⊎_elim
        (λ (e : j ≡ m). subst P (sym e) (q (subst (λ i. get_or bs i 0 ≡ b) e c)))
        (λ (e : j ≡ m → ⊥). w.1 j l (omega arith) c)
        (cases_eq j m),
  )

  -- where that number is the entry of the bucket that came first
  one_more : (m : ℕ) → ((xs rest : List ℕ) → entries_below bs b m ≡ xs ++ rest → Each P xs → Came m rest) → m < length bs → get_or bs m 0 ≡ b → (xs rest : List ℕ) → m ∷ entries_below bs b m ≡ xs ++ rest → Each P xs → Came (suc m) rest
  one_more m ih l t [] [] e h = absurd (let k = ap length e in omega arith)
  one_more m ih l t [] (x ∷ u) e h =
      let k = head_is m x _ u e in
      (subst (λ i. IsIn (Some i) bs b) k (l, t), λ j p q c. absurd (omega arith))
  one_more m ih l t (y ∷ ys) rest e h = more m rest (ih ys rest (ap (drop 1) e) h.1) (λ c. subst P (sym (head_is m y _ _ e)) h.0)

  -- where P holds of those that came, it holds of all behind the one that comes next
  came : (n : ℕ) → n ≤ length bs → (xs rest : List ℕ) → entries_below bs b n ≡ xs ++ rest → Each P xs → Came n rest
  came zero l [] [] e h = (tt, λ j p q c. absurd (omega arith))
  came zero l [] (x ∷ u) e h = absurd (let k = ap length e in omega arith)
  came zero l (y ∷ ys) rest e h = absurd (let k = ap length e in omega arith)
  came (suc m) l xs rest e h = ⊎_elim
      (λ (t : eqb b (get_or bs m 0) ≡ true). one_more m (came m (omega arith)) l (sym (eqb-true b (get_or bs m 0) t)) xs rest (sym (cond-true (eqb b (get_or bs m 0)) _ _ t) ∙ e) h)
      (λ (f : eqb b (get_or bs m 0) ≡ false). more m rest (came m (omega arith) xs rest (sym (cond-false (eqb b (get_or bs m 0)) _ _ f) ∙ e) h)
      (λ q. absurd (let z : ◌≡◌ {A = Bool} true false = sym (eq-eqb b (get_or bs m 0) (sym q)) ∙ f in let y : ◌≡◌ {A = ℕ} 0 1 = cc in omega arith)))
      (cases_Bool (eqb b (get_or bs m 0)))

-- calls that gave xs left the others
gave : (left xs t : List ℕ) → Yields (YieldsFirst (λ (l : List ℕ). l)) left xs t → left ≡ xs ++ t
gave left [] t y = y
gave left (x ∷ xs) t y = y.1 ∙ ap (λ l. x ∷ l) (gave y.0 xs t y.2)

-- a search by a test that each call leaves as it was, and of which `answers i v` says that it may answer v for entry i
module _ {F : Type 0} (g : Mut F (Bor ℕ × Unit {0}) Bool) (f : F) (answers : ℕ → Bool → Type 0) (told : (i : ℕ) (v : Bool) (h : F) → CalledAt g f i v h → (h ≡ f) × answers i v) where
  -- the calls at those that came answered false
  failed : (xs : List ℕ) (p q : F) → p ≡ f → FoldsTo (λ p x q. CalledAt g p x false q) p xs q → (q ≡ f) × Each (λ i. answers i false) xs
  failed [] p q e h = (sym h ∙ e, tt)
  failed (x ∷ xs) p q e h =
      let w = told x false h.0 (subst (λ k. CalledAt g k x false h.0) e h.1) in
      let u = failed xs h.0 q w.0 h.2 in
      (u.0, (w.1, u.1))

  module _ (bs : List ℕ) (b : ℕ) where
    -- it may be called wherever `find` calls it, if it may be called at each entry of the bucket
    pub callable_while : (left : List ℕ) → left ≡ entries_below bs b (length bs) → ((i : ℕ) → i < length bs → get_or bs i 0 ≡ b → TakesAt g f i) → CallableWhileAt (YieldsFirst (λ (l : List ℕ). l)) g false left f
    callable_while left e h = record {
      at = λ xs t q x u ys folds st.
          let w = failed xs f q refl folds in
          let c = came bs b (λ i. answers i false) (length bs) (omega arith) xs (x ∷ u) (sym e ∙ gave left xs t ys ∙ ap (λ l. xs ++ l) st) w.1 in
          subst (λ k. TakesAt g k x) (sym w.0) (h x c.0.0 c.0.1);
    }

    -- what it finds is the last entry of the bucket that passes, and it finds none where each fails
    pub last_found : (left u : List ℕ) (r : Option ℕ) → left ≡ entries_below bs b (length bs) → FindsItem (YieldsFirst (λ (l : List ℕ). l)) g left f r u → IfSome r (IsLastPassing bs b answers) × IfNone r (AllFailFrom bs b answers 0)
    last_found left u None e h =
        let w = failed h.0 f h.1 refl h.3 in
        let c = came bs b (λ i. answers i false) (length bs) (omega arith) h.0 [] (sym e ∙ gave left h.0 h.2.0 h.2.1 ∙ ap (λ l. h.0 ++ l) h.2.2.0) w.1 in
        (tt, λ j p q k. c.1 j (omega arith) q k)
    last_found left u (Some x) e h =
        let w = failed h.0 f h.1 refl h.3 in
        let c = came bs b (λ i. answers i false) (length bs) (omega arith) h.0 (x ∷ u) (sym e ∙ gave left h.0 h.2.0 h.2.1 ∙ ap (λ l. h.0 ++ l) h.2.2) w.1 in
        let t = (told x true h.4.0 (subst (λ k. CalledAt g k x true h.4.0) w.0 h.4.1)).1 in
        (record { within = c.0.0; bucket = c.0.1; passes = t; last = λ j p q k. c.1 j (omega arith) q k }, tt)
