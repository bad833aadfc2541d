-- Names in a table: each has its number, and is there already.
use Rattle.std.proofs.Common.{◌≡◌, ℕ, zero, suc, ◌<◌, ◌≤◌, Bool, true, false, cond, not, ◌⊎◌, List, [], ◌∷◌, ◌++◌, length, Some, None, Option, sym, refl, ap, ◌∙◌, subst, inl, inr, arith}
use Rattle.std.specs.Str.{bytes_eq}
use Rattle.std.proofs.lemmas.Slice.Eq.{bytes_eq-Decides}
use Rattle.std.proofs.lemmas.Bool.{and_parts, and_from, not-true, cases_lt, cond-true, cond-false}
use Rattle.terms.specs.declared.items.Atom.{Atom}
use Rattle.terms.specs.Maps.{every}
use Rattle.names.specs.Numbers.{number, met, name_at}
use Rattle.names.specs.Distinct.{none_is, distinct}
use Rattle.names.proofs.Apart.{distinct_push}
use Rattle.lines.specs.Bytes.{name_more, names_at}

abbrev Name : Type 0
Name = List ℕ

some_is : {A : Type 0} {x y : A} → ◌≡◌ {A = Option A} (Some x) (Some y) → x ≡ y
some_is e = cc

no_some : {A : Type 0} {x : A} → ◌≡◌ {A = Option A} None (Some x) → ⊥
no_some e = let z : ◌≡◌ {A = ℕ} 0 1 = cc in omega arith

-- a test that all names pass
pub every_at : (p : Name → Bool) (ys : List Name) (k : ℕ) (x : Name) → every p ys ≡ true → name_at ys k ≡ Some x → p x ≡ true
every_at p [] k x h e = absurd (no_some e)
every_at p (y ∷ ys) zero x h e = ap p (sym (some_is e)) ∙ (and_parts (p y) (every p ys) h).0
every_at p (y ∷ ys) (suc k) x h e = every_at p ys k x (and_parts (p y) (every p ys) h).1 e

pub every_met : (p : Name → Bool) (ys : List Name) (x : Name) → every p ys ≡ true → p x ≡ true → every p (met ys x) ≡ true
every_met p [] x h k = and_from (p x) true k refl
every_met p (y ∷ ys) x h k = let a = and_parts (p y) (every p ys) h in go (bytes_eq y x) a.0 (every_met p ys x a.1 k)
  where
    go : (b : Bool) → p y ≡ true → every p (met ys x) ≡ true → every p (cond b (y ∷ ys) (y ∷ met ys x)) ≡ true
    go true a m = h
    go false a m = and_from (p y) (every p (met ys x)) a m

-- the number of a name
pub inside : (ys : List Name) (k : ℕ) (x : Name) → name_at ys k ≡ Some x → k < length ys
inside [] k x e = absurd (no_some e)
inside (y ∷ ys) zero x e = omega arith
inside (y ∷ ys) (suc k) x e = let h = inside ys k x e in omega arith

apart : (y : Name) (ys : List Name) (k : ℕ) (x : Name) → none_is y ys ≡ true → name_at ys k ≡ Some x → bytes_eq y x ≡ false
apart y [] k x h e = absurd (no_some e)
apart y (z ∷ ys) zero x h e =
    ap (bytes_eq y) (sym (some_is e)) ∙ not-true (bytes_eq y z) (and_parts (not (bytes_eq y z)) (none_is y ys) h).0
apart y (z ∷ ys) (suc k) x h e = apart y ys k x (and_parts (not (bytes_eq y z)) (none_is y ys) h).1 e

pub number_at : (ys : List Name) (k : ℕ) (x : Name) → distinct ys ≡ true → name_at ys k ≡ Some x → number ys x ≡ k
number_at [] k x d e = absurd (no_some e)
number_at (y ∷ ys) zero x d e = cond-true _ _ _ ((bytes_eq-Decides y x).1 (some_is e))
number_at (y ∷ ys) (suc k) x d e =
    let a = and_parts (none_is y ys) (distinct ys) d in
    cond-false _ _ _ (apart y ys k x a.0 e) ∙ ap suc (number_at ys k x a.1 e)

-- a name that is there already, and one that is new
met_there : (ys : List Name) (x : Name) → number ys x < length ys → met ys x ≡ ys
met_there [] x h = absurd (omega arith)
met_there (y ∷ ys) x h = go (bytes_eq y x) h (met_there ys x)
  where
    go : (c : Bool) → cond c 0 (suc (number ys x)) < suc (length ys) → (number ys x < length ys → met ys x ≡ ys) → cond c (y ∷ ys) (y ∷ met ys x) ≡ y ∷ ys
    go true h f = refl
    go false h f = ap (λ (l : List Name). y ∷ l) (f (omega arith))

met_new : (ys : List Name) (x : Name) → length ys ≤ number ys x → met ys x ≡ ys ++ x ∷ []
met_new [] x h = refl
met_new (y ∷ ys) x h = go (bytes_eq y x) h (met_new ys x)
  where
    go : (c : Bool) → suc (length ys) ≤ cond c 0 (suc (number ys x)) → (length ys ≤ number ys x → met ys x ≡ ys ++ x ∷ []) → cond c (y ∷ ys) (y ∷ met ys x) ≡ y ∷ (ys ++ x ∷ [])
    go true h f = absurd (omega arith)
    go false h f = ap (λ (l : List Name). y ∷ l) (f (omega arith))

pub met_at : (ys : List Name) (k : ℕ) (x : Name) → distinct ys ≡ true → name_at ys k ≡ Some x → met ys x ≡ ys
met_at ys k x d e = met_there ys x (subst (λ (n : ℕ). n < length ys) (sym (number_at ys k x d e)) (inside ys k x e))

pub distinct_met : (ys : List Name) (x : Name) → distinct ys ≡ true → distinct (met ys x) ≡ true
distinct_met ys x d = go (cases_lt (number ys x) (length ys))
  where
    go : (number ys x < length ys) ⊎ (length ys ≤ number ys x) → distinct (met ys x) ≡ true
    go (inl h) = ap distinct (met_there ys x h) ∙ d
    go (inr h) = ap distinct (met_new ys x h) ∙ distinct_push ys x d h

-- the names of some atoms
pub data AllNamed (ys : List Name) : List Atom → List Name → Type 0 where
  done : AllNamed ys [] []
  also : {a : Atom} {l : List Atom} {x : Name} {xs : List Name} → name_at ys a.0 ≡ Some x → AllNamed ys l xs → AllNamed ys (a ∷ l) (x ∷ xs)

pub all_named : (ys : List Name) (l : List Atom) (xs : List Name) → names_at ys l ≡ Some xs → AllNamed ys l xs
all_named ys [] xs e = subst (AllNamed ys []) (some_is e) done
all_named ys (a ∷ l) xs e = go (λ zs. all_named ys l zs) (name_at ys a.0) refl (names_at ys l) refl e
  where
    go : ((zs : List Name) → names_at ys l ≡ Some zs → AllNamed ys l zs) → (o : Option Name) → name_at ys a.0 ≡ o → (r : Option (List Name)) → names_at ys l ≡ r → name_more o r ≡ Some xs
        → AllNamed ys (a ∷ l) xs
    go f None p r q e = absurd (no_some e)
    go f (Some x) p None q e = absurd (no_some e)
    go f (Some x) p (Some zs) q e = subst (AllNamed ys (a ∷ l)) (some_is e) (also p (f zs q))
