-- The tree finds what is kept: one sentence more.
use Rattle.std.proofs.Common.{◌≡◌, ℕ, ◌+◌, ◌<◌, ◌≤◌, true, false, eqb, List, [], ◌∷◌, ◌++◌, map, length, is_some, Some, None, Option, sym, refl, ap, ◌∙◌, ⊎_elim, arith}
use Rattle.std.proofs.lemmas.Bool.{eq-eqb, and_from, cases_Bool}
use Rattle.terms.specs.declared.items.Node.{Node}
use Rattle.terms.specs.declared.items.Atom.{Atom}
use Rattle.terms.specs.Maps.{same_atoms}
use Rattle.stores.specs.Sentences.{Sentence, map_of, is_pair, atoms_in}
use Rattle.stores.proofs.Pairs.{never, pair_is}
use Rattle.kept.specs.declared.Room.{Room}
use Rattle.kept.specs.Held.{passes, smaller}
use Rattle.kept.specs.Firsts.{first_by}
use Rattle.kept.proofs.Firsts.{first_other, first_new, first_none, some_first}
use Rattle.kept.proofs.Rooms.{within, within_smaller}
use Rattle.chains.specs.Last.{up_to}
use Rattle.chains.proofs.Lasts.{same_up}
use Rattle.trie.specs.Ways.{num, word_of}

-- ---- pairs and words
nums_same : (xs ys : List Atom) → map num xs ≡ map num ys → same_atoms xs ys ≡ true
nums_same [] [] e = refl
nums_same [] (y ∷ ys) e = absurd (let z : ◌≡◌ {A = ℕ} 0 1 = cc in omega arith)
nums_same (x ∷ xs) [] e = absurd (let z : ◌≡◌ {A = ℕ} 0 1 = cc in omega arith)
nums_same (x ∷ xs) (y ∷ ys) e =
    let a : x.0 ≡ y.0 = cc in
    let b : map num xs ≡ map num ys = cc in
    and_from (eqb x.0 y.0) (same_atoms xs ys) (eq-eqb x.0 y.0 a) (nums_same xs ys b)

word_pair : (n : Node) (l : List Atom) (s : Sentence) → word_of s.node s.left ≡ word_of n l → is_pair n l s ≡ true
word_pair n l s e =
    let a : n.0 ≡ s.node.0 = cc in
    let b : map num l ≡ map num s.left = cc in
    and_from (eqb n.0 s.node.0) (same_atoms l s.left) (eq-eqb n.0 s.node.0 a) (nums_same l s.left b)

pair_word : (n : Node) (l : List Atom) (s : Sentence) → is_pair n l s ≡ true → word_of n l ≡ word_of s.node s.left
pair_word n l s t = let p = pair_is n l s t in ap (λ (x : Node). x.0 ∷ map num l) p.0 ∙ ap (λ x. s.node.0 ∷ map num x) p.1

-- the mark at the place of each pair is the number of its first sentence
abbrev pub Tied : (List ℕ → Option ℕ) → List Sentence → Type 0
Tied L ss = (n : Node) (l : List Atom) → up_to (L (word_of n l)) ≡ up_to (first_by (is_pair n l) ss)

pub mark_first : (L : List ℕ → Option ℕ) (ss : List Sentence) → Tied L ss → (n : Node) (l : List Atom) → L (word_of n l) ≡ first_by (is_pair n l) ss
mark_first L ss h n l = same_up (L (word_of n l)) (first_by (is_pair n l) ss) (h n l)

pub some_marked : (L : List ℕ → Option ℕ) (ss : List Sentence) → Tied L ss → (n : Node) (l : List Atom) → is_some (L (word_of n l)) ≡ is_some (map_of ss n l)
some_marked L ss h n l = ap is_some (mark_first L ss h n l) ∙ sym (some_first ss n l)

pub tied_more : (L L' : List ℕ → Option ℕ) (ss ss' : List Sentence) (s : Sentence) (k : ℕ) → Tied L ss → L' (word_of s.node s.left) ≡ Some k
    → ((w : List ℕ) → (word_of s.node s.left ≡ w → ⊥) → L' w ≡ L w) → k ≡ length ss → ss' ≡ ss ++ s ∷ [] → is_some (map_of ss s.node s.left) ≡ false → Tied L' ss'
tied_more L L' ss ss' s k tied there elsewhere ek es fresh n l =
    ⊎_elim
    (λ (h : is_pair n l s ≡ true).
    let p = pair_is n l s h in
    let f : map_of ss n l ≡ map_of ss s.node s.left = ap (λ x. map_of ss x l) p.0 ∙ ap (map_of ss s.node) p.1 in
    let z : first_by (is_pair n l) ss ≡ None = first_none ss n l (ap is_some f ∙ fresh) in
    ap up_to (ap L' (pair_word n l s h) ∙ there ∙ ap Some ek ∙ sym (first_new (is_pair n l) ss s h z)))
    (λ (h : is_pair n l s ≡ false).
    ap up_to (elsewhere (word_of n l) (λ e. never (sym (word_pair n l s e) ∙ h))) ∙ tied n l ∙ sym (ap up_to (first_other (is_pair n l) ss s h)))
    (cases_Bool (is_pair n l s))
    ∙ sym (ap (λ x. up_to (first_by (is_pair n l) x)) es)

-- there is memory for the edges
pub takes : (most room : Room) (ss : List Sentence) (a i e r : ℕ) → passes (smaller most room) ss a i ≡ false → e ≤ length ss + atoms_in ss → room ≡ record { sentences = 2048; atoms = 8192; items = 32768 } → r ≡ 10240
    → e + a < r
takes most room ss a i e r h p x z =
    let v = within_smaller most room ss a i (within (smaller most room) ss a i h) in
    let s = v.sentences in
    let t = v.atoms in
    let xs = ap (λ (k : Room). k.sentences) x in
    let xa = ap (λ (k : Room). k.atoms) x in
    omega arith
