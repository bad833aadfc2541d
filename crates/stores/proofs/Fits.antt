-- A sentence that is let pass is within the limits, and so is every sentence of a map of such.
use Rattle.std.proofs.Common.{◌≡◌, ℕ, ◌≤◌, Bool, true, false, cond, not, ◌&&◌, ltb, List, [], ◌∷◌, length, is_some, Some, None, Option, sym, refl, ap, ◌∙◌, subst, ⊎_elim, arith}
use Rattle.std.proofs.lemmas.Bool.{and_parts, ltb-false, cases_Bool}
use Rattle.terms.specs.declared.items.Item.{Item}
use Rattle.terms.specs.Terms.{flat, nesting, terms_of}
use Rattle.terms.specs.Maps.{Fitting, Lawful, every, node_in_range, atom_in_range, item_in_range}
use Rattle.terms.proofs.Balance.{balanced_items_are_term_lists_lem, items_read_back}
use Rattle.stores.specs.declared.refusals.Refusal.TheVariants as refused
use Rattle.stores.specs.Sentences.{Sentence, is_pair, map_of}
use Rattle.stores.specs.Refusals.{well_formed, shallow, paired, fits}
use Rattle.stores.proofs.Closes.{closes_balanced}
use Rattle.stores.proofs.Pairs.{never, pair_is}

fit_parts : (a b c d : Bool)
    → not (is_some (cond a (cond b (cond c (Some refused.LeftTooLong) (cond d (Some refused.RightTooLong) None)) (Some refused.TooDeep)) (Some refused.Malformed))) ≡ true
    → (a ≡ true) × (b ≡ true) × (c ≡ false) × (d ≡ false)
fit_parts true true false false h = (refl, refl, refl, refl)
fit_parts true true true d h = never (sym h)
fit_parts true true false true h = never (sym h)
fit_parts true false c d h = never (sym h)
fit_parts false b c d h = never (sym h)

-- the terms that such items are read as are kept as these items
pub fit_reads : (s : Sentence) → fits s ≡ true → (flat (terms_of s.right) ≡ s.right) × (nesting (terms_of s.right) ≤ 4)
fit_reads s h =
    let p = fit_parts (well_formed s) (shallow s.right) (ltb 32 (length s.left)) (ltb 64 (length s.right)) h in
    let x = (balanced_items_are_term_lists_lem s.right).0 (sym (closes_balanced 0 s.right) ∙ p.1) in
    let e : x.0 ≡ terms_of s.right = sym (items_read_back x.0) ∙ ap terms_of x.1 in
    (sym (ap flat e) ∙ x.1, subst (λ u. nesting u ≤ 4) e x.2)

pub fit_fitting : (s : Sentence) → fits s ≡ true → Fitting s.node s.left (terms_of s.right)
fit_fitting s h =
    let p = fit_parts (well_formed s) (shallow s.right) (ltb 32 (length s.left)) (ltb 64 (length s.right)) h in
    let w = and_parts (node_in_range s.node && every atom_in_range s.left) (every item_in_range s.right && paired s.right) p.0 in
    let u = and_parts (node_in_range s.node) (every atom_in_range s.left) w.0 in
    let v = and_parts (every item_in_range s.right) (paired s.right) w.1 in
    let r = fit_reads s h in
    record {
      node = u.0;
      left_atoms = u.1;
      left_length = ltb-false 32 (length s.left) p.2;
      right_items = ap (every item_in_range) r.0 ∙ v.0;
      right_length = subst (λ (is : List Item). length is ≤ 64) (sym r.0) (ltb-false 64 (length s.right) p.3);
      right_nesting = r.1;
    }

none_some : {X : Type 0} (x : X) (P : Type 0) → ◌≡◌ {A = Option X} None (Some x) → P
none_some x P e = absurd (let z : ◌≡◌ {A = ℕ} 0 1 = cc in omega arith)

pub lawful_of : (ss : List Sentence) → every fits ss ≡ true → Lawful (map_of ss)
lawful_of [] h n l t e = none_some t (Fitting n l t) e
lawful_of (s ∷ ss) h n l t e =
    let f = and_parts (fits s) (every fits ss) h in
    ⊎_elim
    (λ (b : is_pair n l s ≡ true).
    let p = pair_is n l s b in
    let q : Some (terms_of s.right) ≡ Some t = sym (ap (λ v. cond v (Some (terms_of s.right)) (map_of ss n l)) b) ∙ e in
    let r : terms_of s.right ≡ t = cc in
    subst (λ u. Fitting n l u) r (subst (λ m. Fitting m l (terms_of s.right)) (sym p.0) (subst (λ m. Fitting s.node m (terms_of s.right)) (sym p.1) (fit_fitting s f.0))))
    (λ (b : is_pair n l s ≡ false). lawful_of ss f.1 n l t (sym (ap (λ v. cond v (Some (terms_of s.right)) (map_of ss n l)) b) ∙ e))
    (cases_Bool (is_pair n l s))
