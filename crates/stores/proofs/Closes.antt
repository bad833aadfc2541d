-- Items that close are those of a list of terms.
use Rattle.std.proofs.Common.{◌≡◌, ℕ, zero, suc, ◌+◌, ◌-◌, ◌≤◌, Bool, true, false, cond, ◌&&◌, ltb, List, [], ◌∷◌, ◌++◌, length, Some, None, Option, sym, refl, ap, ◌∙◌, subst, append_assoc, arith, length-append}
use Rattle.std.proofs.lemmas.Bool.{lt-ltb, eqb-true, ne_eqb}
use Rattle.std.proofs.lemmas.List.{append-nil}
use Rattle.terms.specs.declared.items.Node.{Node}
use Rattle.terms.specs.declared.items.Quoting.{Quoting}
use Rattle.terms.specs.declared.items.Item.{Item}
use Rattle.terms.specs.declared.items.Item.TheVariants as item
use Rattle.terms.specs.Terms.{Terms, flat, nesting, balanced, Reading, in_path, read, terms_of}
use Rattle.terms.proofs.Balance.{balanced_items_are_term_lists_lem, items_read_back}
use Rattle.stores.specs.Refusals.{open_after, closes, shallow, PairedItemsAreTermLists, ShallowItemsNestFourDeep}

never : {P : Type 0} → true ≡ false → P
never e = absurd (let z : ◌≡◌ {A = ℕ} 0 1 = cc in omega arith)

-- a close where a path is open
close_one : (most d e : ℕ) → d ≡ suc e → open_after most d item.Close ≡ Some e
close_one most d e h =
    let z : d - 1 ≡ e = omega arith in
    ap (λ b. cond b None (Some (d - 1))) (ne_eqb d 0 (λ k. omega arith)) ∙ ap Some z

-- ---- with a most of four they are the balanced ones
closes_opened : (d : ℕ) (more : List Item) (b : Bool) → closes 4 (Some (suc d)) more ≡ balanced (suc d) more
    → closes 4 (cond b (Some (d + 1)) None) more ≡ (b && balanced (suc d) more)
closes_opened d more false e = none more
  where
    none : (is : List Item) → closes 4 None is ≡ false
    none is = refl
closes_opened d more true e = let z : d + 1 ≡ suc d = omega arith in ap (λ k. closes 4 (Some k) more) z ∙ e

pub closes_balanced : (d : ℕ) (is : List Item) → closes 4 (Some d) is ≡ balanced d is
unfolding balanced
closes_balanced zero [] = refl
closes_balanced (suc d) [] = ne_eqb (suc d) 0 (λ k. omega arith)
closes_balanced d (item.Atom a ∷ more) = closes_balanced d more
closes_balanced d (item.Node q n ∷ more) = closes_balanced d more
closes_balanced d (item.Open q n ∷ more) = closes_opened d more (ltb d 4) (closes_balanced (suc d) more)
closes_balanced zero (item.Close ∷ more) = refl
closes_balanced (suc d) (item.Close ∷ more) = ap (λ o. closes 4 o more) (close_one 4 (suc d) d refl) ∙ closes_balanced d more

-- ---- with any most, they read as terms
abbrev behind_closes : List Terms → List Item
behind_closes [] = []
behind_closes (t ∷ more) = item.Close ∷ (flat t ++ behind_closes more)

abbrev Whole : ℕ → List Item → Reading → Type 0
Whole d is r = (flat r.first ++ behind_closes r.behind ≡ is) × (length r.behind ≡ d)

opened : (d : ℕ) (q : Quoting) (n : Option Node) (is : List Item) (inside : Terms) (behind : List Terms)
    → Whole (suc d) is (record { first = inside; behind = behind }) → Whole d (item.Open q n ∷ is) (in_path q n inside behind)
opened d q n is inside [] w = let k = w.1 in absurd (omega arith)
opened d q n is inside (rest ∷ behind) w = let k = w.1 in (ap (λ x. item.Open q n ∷ x) (simp append_assoc w.0), omega arith)

whole : (most d : ℕ) (is : List Item) → closes most (Some d) is ≡ true → Whole d is (read is)
unfolding read
whole most d [] e = (refl, sym (eqb-true d 0 e))
whole most d (item.Atom a ∷ more) e = let w = whole most d more e in (ap (λ x. item.Atom a ∷ x) w.0, w.1)
whole most d (item.Node q n ∷ more) e = let w = whole most d more e in (ap (λ x. item.Node q n ∷ x) w.0, w.1)
whole most d (item.Open q n ∷ more) e =
    let z : d + 1 ≡ suc d = omega arith in
    went (ltb d most) (Whole d (item.Open q n ∷ more) (read (item.Open q n ∷ more))) e
    (λ f. opened d q n more (read more).first (read more).behind (subst (λ k. Whole k more (read more)) z (whole most (d + 1) more f)))
  where
    went : (b : Bool) (P : Type 0) → closes most (cond b (Some (d + 1)) None) more ≡ true → (closes most (Some (d + 1)) more ≡ true → P) → P
    went true P f g = g f
    went false P f g = never (sym f)
whole most zero (item.Close ∷ more) e = never (sym e)
whole most (suc d) (item.Close ∷ more) e =
    let w = whole most d more (sym (ap (λ o. closes most o more) (close_one most (suc d) d refl)) ∙ e) in
    let k = w.1 in
    (ap (λ x. item.Close ∷ x) w.0, omega arith)

-- ---- terms in front do not change whether items close
pub closes_behind : (most : ℕ) (t : Terms) (d : ℕ) (is : List Item) → d + nesting t ≤ most → closes most (Some d) (flat t ++ is) ≡ closes most (Some d) is
closes_behind most Terms.done d is h = refl
closes_behind most (Terms.atom a rest) d is h = closes_behind most rest d is h
closes_behind most (Terms.node q n rest) d is h = closes_behind most rest d is h
closes_behind most (Terms.path q n inside rest) d is h =
    let a = closes_behind most inside (d + 1) (item.Close ∷ (flat rest ++ is)) (omega arith) in
    let b = closes_behind most rest d is (omega arith) in
    let c : ltb d most ≡ true = lt-ltb d most (omega arith) in
    ap (λ x. closes most (cond (ltb d most) (Some (d + 1)) None) x) (append_assoc (flat inside) (item.Close ∷ flat rest) is)
    ∙ ap (λ v. closes most (cond v (Some (d + 1)) None) (flat inside ++ (item.Close ∷ (flat rest ++ is)))) c
    ∙ a ∙ ap (λ o. closes most o (flat rest ++ is)) (close_one most (d + 1) d (omega arith)) ∙ b

-- a path takes an opening and a close
pub nesting_length : (t : Terms) → nesting t ≤ length (flat t)
nesting_length Terms.done = omega arith
nesting_length (Terms.atom a rest) = let k = nesting_length rest in omega arith
nesting_length (Terms.node q n rest) = let k = nesting_length rest in omega arith
nesting_length (Terms.path q n inside rest) =
    let k = nesting_length inside in
    let m = nesting_length rest in
    let l = length-append (flat inside) (item.Close ∷ flat rest) in
    omega arith

closes_flat : (most : ℕ) (t : Terms) → nesting t ≤ most → closes most (Some 0) (flat t) ≡ true
closes_flat most t h = ap (closes most (Some 0)) (sym (append-nil (flat t))) ∙ closes_behind most t 0 [] (omega arith)

first_alone : (is : List Item) (r : Reading) → Whole 0 is r → flat r.first ≡ is
first_alone is r w = go r.behind w.1 w.0
  where
    go : (behind : List Terms) → length behind ≡ 0 → flat r.first ++ behind_closes behind ≡ is → flat r.first ≡ is
    go [] k e = sym (append-nil (flat r.first)) ∙ e
    go (t ∷ behind) k e = absurd (omega arith)

pub paired_items_are_term_lists : PairedItemsAreTermLists
paired_items_are_term_lists is = (
  λ e. ((read is).first, first_alone is (read is) (whole (length is) 0 is e)),
  λ x. let e : flat x.0 ≡ is = x.1 in
      let k = nesting_length x.0 in
      let m = ap length e in
      ap (closes (length is) (Some 0)) (sym e) ∙ closes_flat (length is) x.0 (omega arith),
)

pub shallow_items_nest_four_deep : ShallowItemsNestFourDeep
shallow_items_nest_four_deep t = (λ e. within e, closes_flat 4 t)
  where
    within : shallow (flat t) ≡ true → nesting t ≤ 4
    within e =
        let x = (balanced_items_are_term_lists_lem (flat t)).0 (sym (closes_balanced 0 (flat t)) ∙ e) in
        let f : x.0 ≡ t = sym (items_read_back x.0) ∙ ap terms_of x.1 ∙ items_read_back t in
        subst (λ u. nesting u ≤ 4) f x.2
