-- One sentence more, and what add answers once refusals 4 to 8 let it pass.
use Rattle.std.proofs.Common.{◌≡◌, ◌+◌, Bool, true, false, cond, ◌&&◌, List, [], ◌∷◌, ◌++◌, length, is_some, is_ok, Some, None, Option, Ok, Err, Result, ℕ, sym, refl, ap, ◌∙◌, add_assoc, arith}
use Rattle.std.proofs.lemmas.List.Folds.{list_all-append}
use Rattle.terms.specs.Maps.{every}
use Rattle.stores.specs.declared.refusals.Refusal.{Refusal}
use Rattle.stores.specs.declared.refusals.Refusal.TheVariants as refused
use Rattle.stores.specs.Sentences.{Sentence, map_of, atoms_in, items_in}
use Rattle.stores.specs.Refusals.{unfit, Limits, over, or_else, refusal, answer, kept_after}

pub every_push : {X : Type 0} (f : X → Bool) (xs : List X) (x : X) → every f xs ≡ true → f x ≡ true → every f (xs ++ x ∷ []) ≡ true
every_push f xs x h e = list_all-append f xs (x ∷ []) ∙ ap (λ b. b && (f x && true)) h ∙ ap (λ b. b && true) e

pub atoms_push : (ss : List Sentence) (s : Sentence) → atoms_in (ss ++ s ∷ []) ≡ atoms_in ss + length s.left
atoms_push [] s = omega arith
atoms_push (x ∷ ss) s = ap (λ k. length x.left + k) (atoms_push ss s) ∙ sym (add_assoc (length x.left) (atoms_in ss) (length s.left))

pub items_push : (ss : List Sentence) (s : Sentence) → items_in (ss ++ s ∷ []) ≡ items_in ss + length s.right
items_push [] s = omega arith
items_push (x ∷ ss) s = ap (λ k. length x.right + k) (items_push ss s) ∙ sym (add_assoc (length x.right) (items_in ss) (length s.right))

pub answered : (o : Option Refusal) → Ok tt ≡ answer o → o ≡ None
answered None h = refl
answered (Some f) h = absurd (let z : ◌≡◌ {A = ℕ} 0 1 = cc in omega arith)

-- ---- what add answers and keeps, by how far it comes
module _ (k : Limits) (ss : List Sentence) (s : Sentence) where
  abbrev pub Added : Result (Unit {0}) Refusal → List Sentence → Type 0
  Added r ss' = (r ≡ answer (refusal k ss s)) × (ss' ≡ kept_after (refusal k ss s) ss s)

  -- where the sentence alone is refused
  pub added_unfit : (e : Refusal) → Err e ≡ answer (unfit s) → Added (Err e) ss
  added_unfit e h = by (unfit s) refl h
    where
      by : (o : Option Refusal) → unfit s ≡ o → Err e ≡ answer o → Added (Err e) ss
      by None q h = absurd (let z : ◌≡◌ {A = ℕ} 0 1 = cc in omega arith)
      by (Some f) q h =
          let r : refusal k ss s ≡ Some f = ap (λ o. or_else o (cond (is_some (map_of ss s.node s.left)) (Some refused.AlreadyKept) (cond (over k ss s) (Some refused.Full) None))) q in
          (h ∙ sym (ap answer r), sym (ap (λ o. kept_after o ss s) r))

  behind : (b : Bool) → Ok tt ≡ answer (unfit s) → is_some (map_of ss s.node s.left) ≡ b → refusal k ss s ≡ cond b (Some refused.AlreadyKept) (cond (over k ss s) (Some refused.Full) None)
  behind b h t =
      ap (λ o. or_else o (cond (is_some (map_of ss s.node s.left)) (Some refused.AlreadyKept) (cond (over k ss s) (Some refused.Full) None))) (answered (unfit s) h)
      ∙ ap (λ v. cond v (Some refused.AlreadyKept) (cond (over k ss s) (Some refused.Full) None)) t

  -- where the pair has a sentence
  pub added_twice : Ok tt ≡ answer (unfit s) → is_some (map_of ss s.node s.left) ≡ true → Added (Err refused.AlreadyKept) ss
  added_twice h t = let r = behind true h t in (sym (ap answer r), sym (ap (λ o. kept_after o ss s) r))

  -- where it depends on the room
  pub added_by_room : (r : Result (Unit {0}) Refusal) (ss' : List Sentence) → Ok tt ≡ answer (unfit s) → is_some (map_of ss s.node s.left) ≡ false
      → r ≡ cond (over k ss s) (Err refused.Full) (Ok tt) → ss' ≡ cond (is_ok r) (ss ++ s ∷ []) ss → Added r ss'
  added_by_room r ss' h t g e =
      let q = behind false h t in
      (g ∙ shown (over k ss s) ∙ sym (ap answer q), e ∙ ap (λ v. cond (is_ok v) (ss ++ s ∷ []) ss) g ∙ left (over k ss s) ∙ sym (ap (λ o. kept_after o ss s) q))
    where
      shown : (b : Bool) → cond {A = Result (Unit {0}) Refusal} b (Err refused.Full) (Ok tt) ≡ answer (cond b (Some refused.Full) None)
      shown true = refl
      shown false = refl

      left : (b : Bool) → cond (is_ok (cond {A = Result (Unit {0}) Refusal} b (Err refused.Full) (Ok tt))) (ss ++ s ∷ []) ss ≡ kept_after (cond b (Some refused.Full) None) ss s
      left true = refl
      left false = refl
