-- The longest left path with which a path begins: by its beginnings, one by one, and over two maps.
use Rattle.std.proofs.Common.{◌≡◌, ℕ, zero, suc, ◌<◌, ◌≤◌, Bool, true, false, cond, ◌||◌, List, [], length, take, is_some, Some, None, Option, sym, refl, ap, ◌∙◌, subst, ⊎_elim, arith}
use Rattle.std.proofs.lemmas.Bool.{cases_lt}
use Rattle.terms.specs.declared.items.Atom.{Atom}
use Rattle.terms.specs.Terms.{Terms}
use Rattle.terms.specs.LookUp.{Look, found, nothing, look_up, length_found}
use Rattle.terms.proofs.LookUp.{Tells, look_tells}
use Rattle.stores.specs.Piles.{either, larger}

-- the longest of the first k + 1 beginnings of p for which there is a right side
abbrev pub upto : (List Atom → Option Terms) → List Atom → ℕ → Option ℕ
upto L p zero = cond (is_some (L [])) (Some 0) None
upto L p (suc k) = cond (is_some (L (take (suc k) p))) (Some (suc k)) (upto L p k)

upto_none : (L : List Atom → Option Terms) (p : List Atom) (k : ℕ) → ((j : ℕ) → j ≤ k → L (take j p) ≡ None) → upto L p k ≡ None
upto_none L p zero h = ap (λ (o : Option Terms). cond (is_some o) (Some 0) None) (h 0 (omega arith))
upto_none L p (suc k) h = ap (λ (o : Option Terms). cond (is_some o) (Some (suc k)) (upto L p k)) (h (suc k) (omega arith)) ∙ upto_none L p k (λ j l. h j (omega arith))

upto_some : (L : List Atom → Option Terms) (p : List Atom) (t : Terms) (j k : ℕ) → j ≤ k → L (take j p) ≡ Some t
    → ((i : ℕ) → j < i → i ≤ k → L (take i p) ≡ None) → upto L p k ≡ Some j
upto_some L p t zero zero l e h = ap (λ (o : Option Terms). cond (is_some o) (Some 0) None) e
upto_some L p t (suc j) zero l e h = absurd (omega arith)
upto_some L p t j (suc k) l e h =
    ⊎_elim
    (λ (s : j < suc k). ap (λ (o : Option Terms). cond (is_some o) (Some (suc k)) (upto L p k)) (h (suc k) s (omega arith)) ∙ upto_some L p t j k (omega arith) e (λ i a b. h i a (omega arith)))
    (λ (s : suc k ≤ j).
    let q : j ≡ suc k = omega arith in
    ap (λ (o : Option Terms). cond (is_some o) (Some (suc k)) (upto L p k)) (subst (λ i. L (take i p) ≡ Some t) q e) ∙ ap Some (sym q))
    (cases_lt j (suc k))

-- the look-up finds it
pub found_upto : (L : List Atom → Option Terms) (p : List Atom) → upto L p (length p) ≡ length_found (look_up L p)
found_upto L p = by (look_up L p) (look_tells L p)
  where
    by : (x : Look) → Tells L p x → upto L p (length p) ≡ length_found x
    by (found k t) h = upto_some L p t k (length p) h.0 h.1 h.2
    by nothing h = upto_none L p (length p) h

-- ---- over two maps
abbrev Below : ℕ → Option ℕ → Type 0
Below k None = Unit {0}
Below k (Some a) = a ≤ k

below_cond : (b : Bool) (k : ℕ) (o : Option ℕ) → Below k o → Below (suc k) (cond b (Some (suc k)) o)
below_cond true k o h = omega arith
below_cond false k None h = tt
below_cond false k (Some a) h = omega arith

below_zero : (b : Bool) → Below 0 (cond b (Some 0) None)
below_zero true = omega arith
below_zero false = tt

upto_below : (L : List Atom → Option Terms) (p : List Atom) (k : ℕ) → Below k (upto L p k)
upto_below L p zero = below_zero (is_some (L []))
upto_below L p (suc k) = below_cond (is_some (L (take (suc k) p))) k (upto L p k) (upto_below L p k)

larger_zero : (x y : Bool) → cond (x || y) (Some 0) None ≡ larger (cond x (Some 0) None) (cond y (Some 0) None)
larger_zero true true = ap Some (omega arith)
larger_zero true false = refl
larger_zero false true = refl
larger_zero false false = refl

larger_suc : (x y : Bool) (k : ℕ) (a b : Option ℕ) → Below k a → Below k b → cond (x || y) (Some (suc k)) (larger a b) ≡ larger (cond x (Some (suc k)) a) (cond y (Some (suc k)) b)
larger_suc true true k a b ha hb = ap Some (omega arith)
larger_suc true false k a None ha hb = refl
larger_suc true false k a (Some v) ha hb = ap Some (omega arith)
larger_suc false true k None b ha hb = refl
larger_suc false true k (Some v) b ha hb = ap Some (omega arith)
larger_suc false false k a b ha hb = refl

some_either : (a b : Option Terms) → is_some (either a b) ≡ (is_some a || is_some b)
some_either None b = refl
some_either (Some x) b = refl

module _ (X Y : List Atom → Option Terms) (p : List Atom) where
  upto_either : (k : ℕ) → upto (λ l. either (X l) (Y l)) p k ≡ larger (upto X p k) (upto Y p k)
  upto_either zero = ap (λ b. cond b (Some 0) None) (some_either (X []) (Y [])) ∙ larger_zero (is_some (X [])) (is_some (Y []))
  upto_either (suc k) =
      let q = take (suc k) p in
      ap (λ b. cond b (Some (suc k)) (upto (λ l. either (X l) (Y l)) p k)) (some_either (X q) (Y q))
      ∙ ap (λ o. cond (is_some (X q) || is_some (Y q)) (Some (suc k)) o) (upto_either k)
      ∙ larger_suc (is_some (X q)) (is_some (Y q)) k (upto X p k) (upto Y p k) (upto_below X p k) (upto_below Y p k)

  -- what is found over two maps is the longer of what is found in each
  pub found_either : length_found (look_up (λ l. either (X l) (Y l)) p) ≡ larger (length_found (look_up X p)) (length_found (look_up Y p))
  found_either =
      sym (found_upto (λ l. either (X l) (Y l)) p) ∙ upto_either (length p)
      ∙ ap (λ o. larger o (upto Y p (length p))) (found_upto X p) ∙ ap (larger (length_found (look_up X p))) (found_upto Y p)

-- ---- the right side over two maps
pub either_upper : (a b : Option Terms) → is_some a ≡ true → a ≡ either a b
either_upper None b h = absurd (let z : ◌≡◌ {A = ℕ} 0 1 = cc in omega arith)
either_upper (Some t) b h = refl

pub either_lower : (a b : Option Terms) → is_some a ≡ false → b ≡ either a b
either_lower None b h = refl
either_lower (Some t) b h = absurd (let z : ◌≡◌ {A = ℕ} 0 1 = cc in omega arith)
