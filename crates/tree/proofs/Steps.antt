-- The steps of the walk down the tree.
use Rattle.std.proofs.Common.{◌≡◌, ℕ, zero, suc, ◌+◌, ◌-◌, ◌<◌, cond, List, [], ◌∷◌, ◌++◌, map, length, take, drop, is_some, Some, None, Option, sym, refl, ap, ◌∙◌, arith}
use Rattle.std.proofs.lemmas.List.{map-append}
use Rattle.terms.specs.declared.items.Node.{Node}
use Rattle.terms.specs.declared.items.Atom.{Atom}
use Rattle.terms.specs.LookUp.{look_up, length_found}
use Rattle.stores.specs.Sentences.{Sentence, map_of}
use Rattle.stores.proofs.Longest.{upto, found_upto}
use Rattle.trie.specs.declared.Edge.{Edge}
use Rattle.trie.specs.Ways.{walk, go, mark_at_lem, lookup, num}
use Rattle.trie.proofs.Grows.{walk_none}
use Rattle.tree.proofs.Ties.{Tied, some_marked}

walk_append : (es : List Edge) (o : Option ℕ) (u w : List ℕ) → walk es o (u ++ w) ≡ walk es (walk es o u) w
walk_append es o [] w = refl
walk_append es o (a ∷ u) w = walk_append es (go es o a) u w

take_sum : (i k : ℕ) (p : List Atom) → take (i + k) p ≡ take i p ++ take k (drop i p)
take_sum zero k p = let z : 0 + k ≡ k = omega arith in ap (λ v. take v p) z
take_sum (suc i) zero [] = let z : suc i + 0 ≡ suc i = omega arith in ap (λ v. take v []) z
take_sum (suc i) (suc k) [] = let z : suc i + suc k ≡ suc (i + suc k) = omega arith in ap (λ v. take v []) z
take_sum (suc i) k (a ∷ p) = let z : suc i + k ≡ suc (i + k) = omega arith in ap (λ v. take v (a ∷ p)) z ∙ ap (λ v. a ∷ v) (take_sum i k p)

-- the longest of the first i + 1 beginnings of p at whose place, from o on, there is a mark
abbrev pub deepest : List Edge → List (Option ℕ) → Option ℕ → List Atom → ℕ → Option ℕ
deepest es ms o p zero = cond (is_some (mark_at_lem ms o)) (Some 0) None
deepest es ms o p (suc k) = cond (is_some (mark_at_lem ms (walk es o (map num (take (suc k) p))))) (Some (suc k)) (deepest es ms o p k)

pub deepest_more : (es : List Edge) (ms : List (Option ℕ)) (o : Option ℕ) (p : List Atom) (i : ℕ) (at best best' : Option ℕ) → at ≡ walk es o (map num (take (i + 1) p))
    → best ≡ deepest es ms o p i → best' ≡ cond (is_some (mark_at_lem ms at)) (Some (i + 1)) best → best' ≡ deepest es ms o p (i + 1)
deepest_more es ms o p i at best best' e b b' =
    let s : i + 1 ≡ suc i = omega arith in
    b' ∙ ap (cond (is_some (mark_at_lem ms at)) (Some (i + 1))) b
    ∙ ap (λ v. cond (is_some (mark_at_lem ms v)) (Some (i + 1)) (deepest es ms o p i)) e
    ∙ ap (λ k. cond (is_some (mark_at_lem ms (walk es o (map num (take k p))))) (Some k) (deepest es ms o p i)) s
    ∙ sym (ap (deepest es ms o p) s)

-- where there is no place, there is none further down
walk_stop : (es : List Edge) (o : Option ℕ) (p : List Atom) (i k : ℕ) → walk es o (map num (take i p)) ≡ None → walk es o (map num (take (i + k) p)) ≡ None
walk_stop es o p i k e =
    ap (λ v. walk es o (map num v)) (take_sum i k p) ∙ ap (walk es o) (map-append num (take i p) (take k (drop i p))) ∙ walk_append es o (map num (take i p)) (map num (take k (drop i p)))
    ∙ ap (λ v. walk es v (map num (take k (drop i p)))) e ∙ walk_none es (map num (take k (drop i p)))

deepest_stop : (es : List Edge) (ms : List (Option ℕ)) (o : Option ℕ) (p : List Atom) (i k : ℕ) → walk es o (map num (take (i + 1) p)) ≡ None → deepest es ms o p (i + k) ≡ deepest es ms o p i
deepest_stop es ms o p i zero e = let z : i + 0 ≡ i = omega arith in ap (deepest es ms o p) z
deepest_stop es ms o p i (suc k) e =
    let z : i + suc k ≡ suc (i + k) = omega arith in
    let y : suc (i + k) ≡ (i + 1) + k = omega arith in
    let n : walk es o (map num (take (suc (i + k)) p)) ≡ None = ap (λ v. walk es o (map num (take v p))) y ∙ walk_stop es o p (i + 1) k e in
    ap (deepest es ms o p) z ∙ ap (λ v. cond (is_some (mark_at_lem ms v)) (Some (suc (i + k))) (deepest es ms o p (i + k))) n ∙ deepest_stop es ms o p i k e

deepest_upto : (es : List Edge) (ms : List (Option ℕ)) (ss : List Sentence) (n : Node) (p : List Atom) (i : ℕ) → Tied (lookup es ms) ss → deepest es ms (go es (Some 0) n.0) p i ≡ upto (map_of ss n) p i
deepest_upto es ms ss n p zero h = ap (λ v. cond v (Some 0) None) (some_marked (lookup es ms) ss h n [])
deepest_upto es ms ss n p (suc k) h =
    ap (λ v. cond v (Some (suc k)) (deepest es ms (go es (Some 0) n.0) p k)) (some_marked (lookup es ms) ss h n (take (suc k) p))
    ∙ ap (cond (is_some (map_of ss n (take (suc k) p))) (Some (suc k))) (deepest_upto es ms ss n p k h)

module _ (es : List Edge) (ms : List (Option ℕ)) (ss : List Sentence) (n : Node) (p : List Atom) (o : Option ℕ) (start : o ≡ go es (Some 0) n.0) (tied : Tied (lookup es ms) ss) where
  -- the end of the path
  pub deepest_all : (i : ℕ) (best : Option ℕ) → i ≡ length p → best ≡ deepest es ms o p i → best ≡ length_found (look_up (map_of ss n) p)
  deepest_all i best e b =
      b ∙ ap (λ v. deepest es ms v p i) start ∙ deepest_upto es ms ss n p i tied ∙ ap (upto (map_of ss n) p) e ∙ found_upto (map_of ss n) p

  -- no place further down: nothing longer is found
  pub deepest_here : (i : ℕ) (best : Option ℕ) → i < length p → walk es o (map num (take (i + 1) p)) ≡ None → best ≡ deepest es ms o p i → best ≡ length_found (look_up (map_of ss n) p)
  deepest_here i best l w b =
      let e : i + (length p - i) ≡ length p = omega arith in
      deepest_all (length p) best refl (b ∙ sym (deepest_stop es ms o p i (length p - i) w) ∙ ap (deepest es ms o p) e)
