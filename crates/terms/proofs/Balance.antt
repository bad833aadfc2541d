-- Balanced items and lists of terms are the same thing.
use Rattle.std.proofs.Common.{◌≡◌, ℕ, zero, suc, ◌+◌, ◌≤◌, true, ◌&&◌, ltb, List, [], ◌∷◌, ◌++◌, Option, sym, refl, ap, ◌∙◌, append_assoc, arith}
use Rattle.std.proofs.lemmas.Bool.{and_parts, ltb-true, lt-ltb}
use Rattle.terms.proofs.Impossible.{impossible}
use Rattle.terms.specs.declared.items.Node.{Node}
use Rattle.terms.specs.declared.items.Quoting.{Quoting}
use Rattle.terms.specs.declared.items.Item.{Item}
use Rattle.terms.specs.declared.items.Item.TheVariants as item
use Rattle.terms.specs.Limits.{nesting_limit}
use Rattle.terms.specs.Terms.{Terms, flat, nesting, balanced, Reading, in_path, read, terms_of, BalancedItemsAreTermLists, ItemsReadBack}

-- the items that a reading is of
abbrev closed : List Terms → List Item
closed [] = []
closed (t ∷ behind) = item.Close ∷ (flat t ++ closed behind)

-- with d paths open, the nesting of what stands behind each close
abbrev Shallow : ℕ → List Terms → Type 0
Shallow zero [] = Unit {0}
Shallow zero (t ∷ behind) = ⊥
Shallow (suc d) [] = ⊥
Shallow (suc d) (t ∷ behind) = (d + nesting t ≤ nesting_limit) × Shallow d behind

record Good (d : ℕ) (items : List Item) (r : Reading) : Type 0 where
  whole : flat r.first ++ closed r.behind ≡ items
  first : d + nesting r.first ≤ nesting_limit
  behind : Shallow d r.behind

opened : (d : ℕ) (q : Quoting) (n : Option Node) (items : List Item) (inside : Terms) (behind : List Terms)
    → Good (suc d) items (record { first = inside; behind = behind }) → Good d (item.Open q n ∷ items) (in_path q n inside behind)
opened d q n items inside [] g = absurd g.behind
opened d q n items inside (rest ∷ behind) g = record {
  whole = ap (λ x. item.Open q n ∷ x) (simp append_assoc g.whole);
  first = let h = g.first in let k = g.behind.0 in omega arith;
  behind = g.behind.1;
}

good : (d : ℕ) (items : List Item) → d ≤ nesting_limit → balanced d items ≡ true → Good d items (read items)
unfolding balanced read
good zero [] m e = record { whole = refl; first = omega arith; behind = tt }
good (suc d) [] m e = impossible (cc)
good d (item.Atom a ∷ more) m e =
    let g = good d more m e in record { whole = ap (λ x. item.Atom a ∷ x) g.whole; first = g.first; behind = g.behind }
good d (item.Node q n ∷ more) m e =
    let g = good d more m e in record { whole = ap (λ x. item.Node q n ∷ x) g.whole; first = g.first; behind = g.behind }
good d (item.Open q n ∷ more) m e =
    let h = and_parts (ltb d nesting_limit) (balanced (suc d) more) e in
    opened d q n more (read more).first (read more).behind (good (suc d) more (ltb-true d nesting_limit h.0) h.1)
good zero (item.Close ∷ more) m e = impossible (cc)
good (suc d) (item.Close ∷ more) m e =
    let g = good d more (omega arith) e in record { whole = ap (λ x. item.Close ∷ x) g.whole; first = omega arith; behind = (g.first, g.behind) }

-- terms in front do not change whether items are balanced
balanced_behind : (t : Terms) (d : ℕ) (items : List Item) → d + nesting t ≤ nesting_limit → balanced d (flat t ++ items) ≡ balanced d items
unfolding balanced
balanced_behind Terms.done d items h = refl
balanced_behind (Terms.atom a rest) d items h = balanced_behind rest d items h
balanced_behind (Terms.node q n rest) d items h = balanced_behind rest d items h
balanced_behind (Terms.path q n inside rest) d items h =
    let a = balanced_behind inside (suc d) (item.Close ∷ (flat rest ++ items)) (omega arith) in
    let b = balanced_behind rest d items (omega arith) in
    let c : ltb d nesting_limit ≡ true = lt-ltb d nesting_limit (omega arith) in
    ap (λ x. ltb d nesting_limit && balanced (suc d) x) (append_assoc (flat inside) (item.Close ∷ flat rest) items) ∙ rw c (a ∙ b)

-- one list of terms behind another
abbrev graft : Terms → Terms → Terms
graft Terms.done u = u
graft (Terms.atom a rest) u = Terms.atom a (graft rest u)
graft (Terms.node q n rest) u = Terms.node q n (graft rest u)
graft (Terms.path q n inside rest) u = Terms.path q n inside (graft rest u)

graft_done : (t : Terms) → graft t Terms.done ≡ t
graft_done Terms.done = refl
graft_done (Terms.atom a rest) = ap (Terms.atom a) (graft_done rest)
graft_done (Terms.node q n rest) = ap (Terms.node q n) (graft_done rest)
graft_done (Terms.path q n inside rest) = ap (Terms.path q n inside) (graft_done rest)

abbrev put : Terms → Reading → Reading
put t r = record { first = graft t r.first; behind = r.behind }

read_behind : (t : Terms) (items : List Item) → read (flat t ++ items) ≡ put t (read items)
unfolding read
read_behind Terms.done items = refl
read_behind (Terms.atom a rest) items = ap (put (Terms.atom a Terms.done)) (read_behind rest items)
read_behind (Terms.node q n rest) items = ap (put (Terms.node q n Terms.done)) (read_behind rest items)
read_behind (Terms.path q n inside rest) items =
    let a = read_behind inside (item.Close ∷ (flat rest ++ items)) in
    let b = read_behind rest items in
    let f : List Item → Reading = λ x. in_path q n (read x).first (read x).behind in
    let g : Reading → Reading = λ r. in_path q n r.first r.behind in
    ap f (append_assoc (flat inside) (item.Close ∷ flat rest) items) ∙ ap g a
    ∙ ap (λ x. put (Terms.path q n x Terms.done) (read (flat rest ++ items))) (graft_done inside)
    ∙ ap (put (Terms.path q n inside Terms.done)) b

append_nil : (xs : List Item) → xs ++ [] ≡ xs
append_nil [] = refl
append_nil (x ∷ xs) = ap (λ y. x ∷ y) (append_nil xs)

pub items_read_back : ItemsReadBack
unfolding terms_of read
items_read_back t = ap (λ x. (read x).first) (sym (append_nil (flat t))) ∙ ap (λ r. r.first) (read_behind t []) ∙ graft_done t

only_first : (items : List Item) (r : Reading) → Good 0 items r → flat r.first ≡ items
only_first items r g = go r.behind g.behind g.whole
  where
    go : (behind : List Terms) → Shallow 0 behind → flat r.first ++ closed behind ≡ items → flat r.first ≡ items
    go [] s e = sym (append_nil (flat r.first)) ∙ e
    go (t ∷ behind) s e = absurd s

pub balanced_items_are_term_lists_lem : BalancedItemsAreTermLists
unfolding balanced
balanced_items_are_term_lists_lem items = (there, back)
  where
    there : balanced 0 items ≡ true → (t : Terms) × (flat t ≡ items) × (nesting t ≤ nesting_limit)
    there e =
        let g = good 0 items (omega arith) e in
        ((read items).first, only_first items (read items) g, let h = g.first in omega arith)

    back : ((t : Terms) × (flat t ≡ items) × (nesting t ≤ nesting_limit)) → balanced 0 items ≡ true
    back x =
        let k = x.2 in
        ap (balanced 0) (sym x.1 ∙ sym (append_nil (flat x.0))) ∙ balanced_behind x.0 0 [] (omega arith)
