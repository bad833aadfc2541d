-- A look-up finds the longest left path.
use Rattle.std.proofs.Common.{◌≡◌, ℕ, zero, suc, ◌<◌, ◌≤◌, ◌⊎◌, ◌↔◌, List, [], ◌∷◌, length, take, Some, None, Option, refl, subst, inl, inr, arith}
use Rattle.std.proofs.lemmas.Bool.{cases_order}
use Rattle.terms.proofs.Impossible.{impossible}
use Rattle.terms.specs.declared.items.Node.{Node}
use Rattle.terms.specs.declared.items.Atom.{Atom}
use Rattle.terms.specs.Terms.{Terms}
use Rattle.terms.specs.Maps.{Map, Longest}
use Rattle.terms.specs.LookUp.{Look, found, nothing, here, further, look_up, LookUpFindsTheLongest}

-- what an answer of the look-up says
abbrev pub Tells : (List Atom → Option Terms) → List Atom → Look → Type 0
Tells L p (found k t) = (k ≤ length p) × (L (take k p) ≡ Some t) × ((j : ℕ) → k < j → j ≤ length p → L (take j p) ≡ None)
Tells L p nothing = (j : ℕ) → j ≤ length p → L (take j p) ≡ None

here_tells : (L : List Atom → Option Terms) (p : List Atom) (o : Option Terms) → L [] ≡ o
    → ((j : ℕ) → 0 < j → j ≤ length p → L (take j p) ≡ None) → Tells L p (here o)
here_tells L p (Some t) e h = (omega arith, e, h)
here_tells L p None e h = go
  where
    go : (j : ℕ) → j ≤ length p → L (take j p) ≡ None
    go zero i = e
    go (suc j) i = h (suc j) (omega arith) i

further_tells : (L : List Atom → Option Terms) (a : Atom) (p : List Atom) (x : Look)
    → Tells (λ l. L (a ∷ l)) p x → Tells L (a ∷ p) (further x (L []))
further_tells L a p (found k t) h = (omega arith, h.1, go)
  where
    go : (j : ℕ) → suc k < j → j ≤ suc (length p) → L (take j (a ∷ p)) ≡ None
    go zero i m = absurd (omega arith)
    go (suc j) i m = h.2 j (omega arith) (omega arith)
further_tells L a p nothing h = here_tells L (a ∷ p) (L []) refl go
  where
    go : (j : ℕ) → 0 < j → j ≤ suc (length p) → L (take j (a ∷ p)) ≡ None
    go zero i m = absurd (omega arith)
    go (suc j) i m = h j (omega arith)

pub look_tells : (L : List Atom → Option Terms) (p : List Atom) → Tells L p (look_up L p)
unfolding look_up
look_tells L [] = here_tells L [] (L []) refl (λ j i m. absurd (omega arith))
look_tells L (a ∷ p) = further_tells L a p (look_up (λ l. L (a ∷ l)) p) (look_tells (λ l. L (a ∷ l)) p)

pub as_longest : (M : Map) (n : Node) (p : List Atom) (k : ℕ) (t : Terms) → Tells (M n) p (found k t) → Longest M n p k t
as_longest M n p k t h = record { within = h.0; sentence = h.1; longest = h.2 }

-- at most one longest left path
pub one_longest : {M : Map} {n : Node} {p : List Atom} {k k' : ℕ} {t t' : Terms}
    → Longest M n p k t → Longest M n p k' t' → (k ≡ k') × (t ≡ t')
one_longest {M} {n} {p} {k} {k'} {t} {t'} l l' = go (cases_order k k')
  where
    go : (k ≡ k') ⊎ ((k < k') ⊎ (k' < k)) → (k ≡ k') × (t ≡ t')
    go (inl e) =
        let a : M n (take k' p) ≡ Some t = rw e at l.sentence in
        let b : M n (take k' p) ≡ Some t' = l'.sentence in
        (e, cc)
    go (inr (inl h)) =
        let a : M n (take k' p) ≡ None = l.longest k' h l'.within in
        let b : M n (take k' p) ≡ Some t' = l'.sentence in
        (cc, cc)
    go (inr (inr h)) =
        let a : M n (take k p) ≡ None = l'.longest k h l.within in
        let b : M n (take k p) ≡ Some t = l.sentence in
        (cc, cc)

module _ (M : Map) (n : Node) (p : List Atom) where
  by_look : (x : Look) → look_up (M n) p ≡ x → Tells (M n) p x
      → ((k : ℕ) (t : Terms) → (x ≡ found k t) ↔ Longest M n p k t)
      × ((x ≡ nothing) ↔ ((k : ℕ) → k ≤ length p → M n (take k p) ≡ None))
  by_look (found j u) e h =
      let l = as_longest M n p j u h in (
        λ k t. (
          λ x. as_longest M n p k t (let P : Look → Type 0 = λ y. Tells (M n) p y in subst P x h),
          λ m. let o = one_longest l m in λ i. found (o.0 i) (o.1 i),
        ),
        (
          λ x. impossible (cc),
          λ f. let a = f j h.0 in let b = h.1 in impossible (cc),
        ),
      )
  by_look nothing e h = (
    λ k t. (
      λ x. impossible (cc),
      λ m. let a = h k m.within in let b = m.sentence in impossible (cc),
    ),
    (λ _. h, λ _. refl),
  )

pub look_up_finds_the_longest_lem : LookUpFindsTheLongest
look_up_finds_the_longest_lem M n p = by_look M n p (look_up (M n) p) refl (look_tells (M n) p)
