-- What a keeper refuses of the sentences that the grammar lets pass.
use Rattle.std.proofs.Common.{◌≡◌, Bool, true, false, cond, ltb, leb, List, [], ◌∷◌, ◌++◌, length, is_some, Some, None, Ok, Err, Option, sym, refl, ap, ◌∙◌, arith}
use Rattle.std.proofs.lemmas.Bool.{cond-true, and_from}
use Rattle.terms.specs.Limits.{path_limit, item_limit}
use Rattle.terms.specs.Maps.{every, item_in_range}
use Rattle.stores.specs.declared.refusals.Refusal.{Refusal}
use Rattle.stores.specs.declared.refusals.Refusal.TheVariants as refused
use Rattle.stores.specs.Sentences.{Sentence, map_of}
use Rattle.stores.specs.Refusals.{Limits, number, over, or_else, refusal, answer, kept_after, well_formed, paired, shallow}
use Rattle.stores.proofs.Closes.{paired_items_are_term_lists, shallow_items_nest_four_deep}
use Rattle.grammar.specs.Loading.{late_refusal}
use Rattle.loader.specs.Equations.{Spelt}

-- cases of the two tests that are left
two : (a b : Bool) (x y : Refusal) (o : Option Refusal) → or_else (cond a (Some x) (cond b (Some y) None)) o ≡ cond a (Some x) (cond b (Some y) o)
two true b x y o = refl
two false true x y o = refl
two false false x y o = refl

fit : (l : Limits) (kept : List Sentence) (x : Sentence) → well_formed x ≡ true → shallow x.right ≡ true → refusal l kept x ≡ late_refusal l kept x
fit l kept x w s =
    ap (λ (o : Option Refusal). or_else o (cond (is_some (map_of kept x.node x.left)) (Some refused.AlreadyKept) (cond (over l kept x) (Some refused.Full) None))) (cond-true _ _ _ w ∙ cond-true _ _ _ s)
    ∙ two (ltb path_limit (length x.left)) (ltb item_limit (length x.right)) refused.LeftTooLong refused.RightTooLong _

-- so only 6 to 9 are left to the keeper
pub late : (l : Limits) (kept : List Sentence) (x : Sentence) → Spelt x → refusal l kept x ≡ late_refusal l kept x
late l kept x s =
    let even : paired x.right ≡ true = (paired_items_are_term_lists x.right).1 (s.terms, sym s.right) in
    let near : shallow x.right ≡ true = ap shallow s.right ∙ (shallow_items_nest_four_deep s.terms).1 s.nests in
    let ranged : every item_in_range x.right ≡ true = ap (every item_in_range) s.right ∙ s.right_in_range in
    fit l kept x (and_from _ _ (and_from _ _ s.named s.left_in_range) (and_from _ _ ranged even)) near

module _ (l : Limits) (kept kept' : List Sentence) (x : Sentence) where
  pub kept_one : (o : Option Refusal) → o ≡ refusal l kept x → Ok tt ≡ answer o → kept' ≡ kept_after o kept x → Spelt x → (late_refusal l kept x ≡ None) × (kept' ≡ kept ++ x ∷ [])
  kept_one None r e k s = (sym (late l kept x s) ∙ sym r, k)
  kept_one (Some f) r e k s = absurd (grind arith)

  pub kept_none : (f : Refusal) (o : Option Refusal) → o ≡ refusal l kept x → Err f ≡ answer o → kept' ≡ kept_after o kept x → Spelt x → (late_refusal l kept x ≡ Some f) × (kept' ≡ kept)
  kept_none f None r e k s = absurd (grind arith)
  kept_none f (Some g) r e k s = (sym (late l kept x s) ∙ sym r ∙ cc, k)

pub late_number : (l : Limits) (kept : List Sentence) (x : Sentence) (f : Refusal) → late_refusal l kept x ≡ Some f → leb 6 (number f) ≡ true
late_number l kept x f e = go (ltb path_limit (length x.left)) (ltb item_limit (length x.right)) (is_some (map_of kept x.node x.left)) (over l kept x) e
  where
    is : (h : Refusal) → leb 6 (number h) ≡ true → Some h ≡ Some f → leb 6 (number f) ≡ true
    is h n q = let z : h ≡ f = cc in sym (ap (λ (h : Refusal). leb 6 (number h)) z) ∙ n

    go : (a b c d : Bool) → cond a (Some refused.LeftTooLong) (cond b (Some refused.RightTooLong) (cond c (Some refused.AlreadyKept) (cond d (Some refused.Full) None))) ≡ Some f → leb 6 (number f) ≡ true
    go true b c d q = is refused.LeftTooLong refl q
    go false true c d q = is refused.RightTooLong refl q
    go false false true d q = is refused.AlreadyKept refl q
    go false false false true q = is refused.Full refl q
    go false false false false q = absurd (grind arith)
