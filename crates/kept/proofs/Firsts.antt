-- The first sentence of a pair, by its number.
use Rattle.std.proofs.Common.{◌≡◌, ℕ, Bool, true, false, cond, List, [], ◌∷◌, ◌++◌, length, is_some, Some, None, Option, sym, refl, ap, ◌∙◌, arith}
use Rattle.std.specs.List.{slice_get}
use Rattle.std.proofs.lemmas.Bool.{and_parts}
use Rattle.terms.specs.declared.items.Node.{Node}
use Rattle.terms.specs.declared.items.Atom.{Atom}
use Rattle.terms.specs.declared.items.Item.{Item}
use Rattle.terms.specs.Terms.{Terms, terms_of}
use Rattle.terms.specs.Maps.{every}
use Rattle.stores.specs.Items.{item_at, items_of}
use Rattle.stores.specs.Sentences.{Sentence, map_of, is_pair}
use Rattle.stores.specs.Refusals.{fits}
use Rattle.stores.proofs.Fits.{fit_reads}
use Rattle.kept.specs.Held.{right_of}
use Rattle.kept.specs.Firsts.{next, first_by}

-- one element more
pub first_other : {X : Type 0} (f : X → Bool) (xs : List X) (x : X) → f x ≡ false → first_by f (xs ++ x ∷ []) ≡ first_by f xs
first_other f [] x h = ap (λ b. cond b (Some 0) None) h
first_other f (y ∷ xs) x h = ap (λ o. cond (f y) (Some 0) (next o)) (first_other f xs x h)

next_none : (o : Option ℕ) → next o ≡ None → o ≡ None
next_none None e = refl
next_none (Some i) e = absurd (let z : ◌≡◌ {A = ℕ} 0 1 = cc in omega arith)

cond_none : (b : Bool) (o : Option ℕ) → cond b (Some 0) o ≡ None → (b ≡ false) × (o ≡ None)
cond_none true o e = absurd (let z : ◌≡◌ {A = ℕ} 0 1 = cc in omega arith)
cond_none false o e = (refl, e)

pub first_new : {X : Type 0} (f : X → Bool) (xs : List X) (x : X) → f x ≡ true → first_by f xs ≡ None → first_by f (xs ++ x ∷ []) ≡ Some (length xs)
first_new f [] x h n = ap (λ b. cond b (Some 0) None) h
first_new f (y ∷ xs) x h n =
    let k = cond_none (f y) (next (first_by f xs)) n in
    ap (λ b. cond b (Some 0) (next (first_by f (xs ++ x ∷ [])))) k.0 ∙ ap next (first_new f xs x h (next_none (first_by f xs) k.1))

some_next : (o : Option ℕ) → is_some (next o) ≡ is_some o
some_next None = refl
some_next (Some i) = refl

some_cond : (b : Bool) (t : Terms) (r : Option Terms) (o : Option ℕ) → is_some r ≡ is_some o → is_some (cond b (Some t) r) ≡ is_some (cond b (Some 0) (next o))
some_cond true t r o e = refl
some_cond false t r o e = e ∙ sym (some_next o)

-- a pair has a right side exactly if there is a first sentence of it
pub some_first : (ss : List Sentence) (n : Node) (l : List Atom) → is_some (map_of ss n l) ≡ is_some (first_by (is_pair n l) ss)
some_first [] n l = refl
some_first (s ∷ ss) n l = some_cond (is_pair n l s) (terms_of s.right) (map_of ss n l) (first_by (is_pair n l) ss) (some_first ss n l)

is_none : (o : Option ℕ) → is_some o ≡ false → o ≡ None
is_none None e = refl
is_none (Some i) e = absurd (let z : ◌≡◌ {A = ℕ} 0 1 = cc in omega arith)

pub first_none : (ss : List Sentence) (n : Node) (l : List Atom) → is_some (map_of ss n l) ≡ false → first_by (is_pair n l) ss ≡ None
first_none ss n l h = is_none (first_by (is_pair n l) ss) (sym (some_first ss n l) ∙ h)

-- the items of the sentence of a number that may not be there
abbrev pub right_at : List Sentence → Option ℕ → List Item
right_at ss None = []
right_at ss (Some k) = right_of (slice_get ss k)

right_next : (s : Sentence) (ss : List Sentence) (o : Option ℕ) → right_at (s ∷ ss) (next o) ≡ right_at ss o
right_next s ss None = refl
right_next s ss (Some k) = refl

right_cond : (b : Bool) (s : Sentence) (ss : List Sentence) (o : Option ℕ) (r : Option Terms) → fits s ≡ true → items_of r ≡ right_at ss o
    → items_of (cond b (Some (terms_of s.right)) r) ≡ right_at (s ∷ ss) (cond b (Some 0) (next o))
right_cond true s ss o r h e = (fit_reads s h).0
right_cond false s ss o r h e = e ∙ sym (right_next s ss o)

-- the items of a pair are those of its first sentence
pub items_first : (ss : List Sentence) → every fits ss ≡ true → (n : Node) (l : List Atom) → items_of (map_of ss n l) ≡ right_at ss (first_by (is_pair n l) ss)
items_first [] h n l = refl
items_first (s ∷ ss) h n l =
    let f = and_parts (fits s) (every fits ss) h in
    right_cond (is_pair n l s) s ss (first_by (is_pair n l) ss) (map_of ss n l) f.0 (items_first ss f.1 n l)

pub item_by : (ss : List Sentence) → every fits ss ≡ true → (n : Node) (l : List Atom) (o : Option ℕ) (k : ℕ) → o ≡ first_by (is_pair n l) ss
    → item_at (right_at ss o) k ≡ item_at (items_of (map_of ss n l)) k
item_by ss h n l o k e = ap (λ v. item_at (right_at ss v) k) e ∙ ap (λ v. item_at v k) (sym (items_first ss h n l))
