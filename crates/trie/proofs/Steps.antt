-- The steps of the loops, one atom more.
use Rattle.std.proofs.Common.{◌≡◌, ℕ, ◌+◌, ◌<◌, ◌≤◌, List, [], ◌∷◌, ◌++◌, map, length, get_or, take, Some, Option, sym, ap, ◌∙◌}
use Rattle.std.proofs.lemmas.List.{map_more, take_all, append_assoc}
use Rattle.terms.specs.declared.items.Node.{Node}
use Rattle.terms.specs.declared.items.Atom.{Atom}
use Rattle.trie.specs.declared.Edge.{Edge}
use Rattle.trie.specs.Ways.{walk, go, num, word_of}
use Rattle.trie.proofs.Grows.{walk_push}

abbrev pub atom0 : Atom
atom0 = record { 0 = 0 }

pub walk_more : (es : List Edge) (o : Option ℕ) (p : List Atom) (i : ℕ) (at at' : Option ℕ) → i < length p → at ≡ walk es o (map num (take i p)) → at' ≡ go es at (get_or p i atom0).0 → at' ≡ walk es o (map num (take (i + 1) p))
walk_more es o p i at at' l e g =
    g ∙ ap (λ v. go es v (get_or p i atom0).0) e ∙ sym (walk_push es o (map num (take i p)) (get_or p i atom0).0) ∙ ap (walk es o) (sym (map_more num p i atom0 l))

pub walk_all : (es : List Edge) (n : Node) (p : List Atom) (i : ℕ) (o at : Option ℕ) → length p ≤ i → o ≡ go es (Some 0) n.0 → at ≡ walk es o (map num (take i p)) → at ≡ walk es (Some 0) (word_of n p)
walk_all es n p i o at l eo e = e ∙ ap (λ v. walk es v (map num (take i p))) eo ∙ ap (λ v. walk es (Some 0) (word_of n v)) (take_all i p l)

pub push_more : (w : List ℕ) (p : List Atom) (i : ℕ) → i < length p → w ++ map num (take (i + 1) p) ≡ (w ++ map num (take i p)) ++ (get_or p i atom0).0 ∷ []
push_more w p i l = ap (λ v. w ++ v) (map_more num p i atom0 l) ∙ sym (append_assoc w (map num (take i p)) ((get_or p i atom0).0 ∷ []))
