-- The map of sentences that are taken has exactly them.
use Rattle.std.proofs.Common.{◌≡◌, ℕ, Bool, true, false, cond, not, List, [], ◌∷◌, Some, sym, ap, ◌∙◌, inl, inr, ⊎_elim, arith}
use Rattle.std.proofs.lemmas.Bool.{and_parts, not-true, cases_Bool}
use Rattle.terms.specs.declared.items.Node.{Node}
use Rattle.terms.specs.declared.items.Atom.{Atom}
use Rattle.terms.specs.Terms.{Terms, flat, terms_of}
use Rattle.terms.specs.Maps.{Map, every}
use Rattle.terms.specs.LookUp.{look_up, length_found}
use Rattle.terms.proofs.Balance.{items_read_back}
use Rattle.stores.specs.Items.{item_at, items_of}
use Rattle.stores.specs.Sentences.{Sentence, sentence, is_pair, map_of}
use Rattle.stores.specs.Refusals.{fits}
use Rattle.stores.proofs.Pairs.{pair_is, own_pair}
use Rattle.stores.proofs.Fits.{fit_reads}
use Rattle.filling.specs.Fills.{apart, Among, Exactly}
use Rattle.filling.specs.Answers.{Alike}

-- what is in the map is a sentence
there : (ts : List Sentence) → every fits ts ≡ true → (n : Node) (l : List Atom) (t : Terms) → map_of ts n l ≡ Some t → Among (sentence n l (flat t)) ts
there [] f n l t e = let z : ◌≡◌ {A = ℕ} 0 1 = cc in omega arith
there (s ∷ ts) f n l t e =
    let g = and_parts (fits s) (every fits ts) f in
    ⊎_elim
    (λ (b : is_pair n l s ≡ true).
    let p = pair_is n l s b in
    let q : Some (terms_of s.right) ≡ Some t = sym (ap (λ v. cond v (Some (terms_of s.right)) (map_of ts n l)) b) ∙ e in
    let r : terms_of s.right ≡ t = cc in
    let i : flat t ≡ s.right = ap flat (sym r) ∙ (fit_reads s g.0).0 in
    let x = p.0 in
    let y = p.1 in
    inl (λ j. record { node = x j; left = y j; right = i j }))
    (λ (b : is_pair n l s ≡ false). inr (there ts g.1 n l t (sym (ap (λ v. cond v (Some (terms_of s.right)) (map_of ts n l)) b) ∙ e)))
    (cases_Bool (is_pair n l s))

-- another sentence is not of a pair that is apart from it
other : (f : Sentence → Bool) (ts : List Sentence) (s : Sentence) → every (λ u. not (f u)) ts ≡ true → Among s ts → f s ≡ false
other f [] s h a = absurd a
other f (t ∷ ts) s h (inl e) = ap f e ∙ not-true (f t) (and_parts (not (f t)) (every (λ u. not (f u)) ts) h).0
other f (t ∷ ts) s h (inr a) = other f ts s (and_parts (not (f t)) (every (λ u. not (f u)) ts) h).1 a

back : (ts : List Sentence) → apart ts ≡ true → (n : Node) (l : List Atom) (t : Terms) → Among (sentence n l (flat t)) ts → map_of ts n l ≡ Some t
back [] p n l t a = absurd a
back (s ∷ ts) p n l t (inl e) =
    let b = own_pair n l s (ap (λ (x : Sentence). x.node) e) (ap (λ (x : Sentence). x.left) e) in
    ap (λ v. cond v (Some (terms_of s.right)) (map_of ts n l)) b ∙ ap (λ (x : Sentence). Some (terms_of x.right)) (sym e) ∙ ap Some (items_read_back t)
back (s ∷ ts) p n l t (inr a) =
    let q = and_parts (every (λ u. not (is_pair u.node u.left s)) ts) (apart ts) p in
    let b : is_pair n l s ≡ false = other (λ u. is_pair u.node u.left s) ts (sentence n l (flat t)) q.0 a in
    ap (λ v. cond v (Some (terms_of s.right)) (map_of ts n l)) b ∙ back ts q.1 n l t a

pub exactly : (ts : List Sentence) → every fits ts ≡ true → apart ts ≡ true → Exactly (map_of ts) ts
exactly ts f p n l t = (there ts f n l t, back ts p n l t)

pub alike : (M N : Map) → M ≡ N → Alike M N
alike M N e = record {
  find = λ n p. ap (λ (F : Map). length_found (look_up (F n) p)) e;
  item = λ n l k. ap (λ (F : Map). item_at (items_of (F n l)) k) e;
}
