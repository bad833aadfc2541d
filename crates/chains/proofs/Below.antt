-- Going back along a chain: which entries come.
use Rattle.std.proofs.Common.{◌≡◌, ℕ, zero, suc, ◌<◌, ◌≤◌, true, false, eqb, List, ◌∷◌, length, get_or, Some, None, Option, sym, refl, ap, ◌∙◌, subst, ⊎_elim, arith}
use Rattle.std.proofs.lemmas.Bool.{eqb-true, cond-true, cond-false, cases_eq, cases_Bool, eq-eqb}
use Rattle.chains.specs.Last.{last_by, earlier, up_to}
use Rattle.chains.specs.Below.{entries_below, IsIn}
use Rattle.chains.proofs.Walks.{walk_start, walk_back}

module _ (bs : List ℕ) (b : ℕ) where
  -- where no entry of the bucket stands between two numbers, as many stand below both
  skip : (m n : ℕ) → m ≤ n → ((i : ℕ) → m ≤ i → i < n → get_or bs i 0 ≡ b → ⊥) → entries_below bs b n ≡ entries_below bs b m
  skip zero zero l h = refl
  skip (suc m) zero l h = absurd (omega arith)
  skip m (suc n) l h = ⊎_elim
      (λ (e : m ≡ suc n). ap (entries_below bs b) (sym e))
      (λ (e : m ≡ suc n → ⊥). let k : m ≤ n = omega arith in ⊎_elim
      (λ (t : eqb b (get_or bs n 0) ≡ true). absurd (h n k (omega arith) (sym (eqb-true b (get_or bs n 0) t))))
      (λ (f : eqb b (get_or bs n 0) ≡ false). cond-false (eqb b (get_or bs n 0)) _ _ f ∙ skip m n k (λ i p q. h i p (omega arith)))
      (cases_Bool (eqb b (get_or bs n 0))))
      (cases_eq m (suc n))

  up_in : (o : Option ℕ) → IsIn o bs b → up_to o ≤ length bs
  up_in None h = omega arith
  up_in (Some i) h = h.0

  -- from the last entry on, all are still to come
  pub all_left : (o : Option ℕ) → o ≡ last_by (eqb b) bs → (entries_below bs b (up_to o) ≡ entries_below bs b (length bs)) × IsIn o bs b
  all_left o e = let w = walk_start bs b (λ _ _. ⊥) o e in (sym (skip (up_to o) (length bs) (up_in o w.inside) w.behind), w.inside)

  -- an entry comes, and then those before it
  entry_left : (i : ℕ) (o : Option ℕ) → IsIn (Some i) bs b → o ≡ earlier bs i → (entries_below bs b (suc i) ≡ i ∷ entries_below bs b (up_to o)) × IsIn o bs b
  entry_left i o h e =
      let w = walk_back bs b (λ j _. i ≤ j) i o (record { inside = h; behind = λ j l _ _. omega arith }) (omega arith) e in
      let l = h.0 in (
        cond-true (eqb b (get_or bs i 0)) _ _ (eq-eqb b (get_or bs i 0) (sym h.1))
            ∙ ap (λ t. i ∷ t) (skip (up_to o) i w.1 (λ j p q c. let k = w.0.behind j p (omega arith) c in absurd (omega arith))),
        w.0.inside,
      )

  -- what is left begins with the entry that stands next, and goes on with those before it
  pub next_left : (left : List ℕ) (at o : Option ℕ) (i : ℕ) → entries_below bs b (up_to at) ≡ left → IsIn at bs b → at ≡ Some i → o ≡ earlier bs i → (left ≡ i ∷ entries_below bs b (up_to o)) × IsIn o bs b
  next_left left at o i v h s e =
      let w = entry_left i o (subst (λ a. IsIn a bs b) s h) e in (sym v ∙ ap (λ a. entries_below bs b (up_to a)) s ∙ w.0, w.1)
