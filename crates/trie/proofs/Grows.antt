-- Words lead to places: what one edge more changes, and that no two words lead to one place.
use Rattle.std.proofs.Common.{◌≡◌, ℕ, zero, suc, ◌+◌, ◌-◌, ◌<◌, ◌≤◌, Bool, true, false, cond, eqb, ◌≢◌, List, [], ◌∷◌, ◌++◌, map, length, get_or, set, Some, None, Option, sym, refl, ap, ◌∙◌, subst, ⊎_elim, append_assoc, arith}
use Rattle.std.proofs.lemmas.List.{get_or_append_left, get_or_push, length_push, append-nil, append_cancel_left, map_push, get_or_past, get_or-set_same, get_or-set_other}
use Rattle.std.proofs.lemmas.Bool.{eqb-true, eq-eqb, ne_eqb, and_parts, and_from, cases_Bool, cases_eq}
use Rattle.std.proofs.str.Laws.{order}
use Rattle.chains.specs.Last.{last_by}
use Rattle.chains.proofs.Lasts.{last_push, last_within, last_holds}
use Rattle.trie.specs.declared.Edge.{Edge}
use Rattle.trie.specs.Ways.{blank, edge, is_edge, end, child_of, go, walk, mark_at_lem, lookup, Rising, bucket_of_lem, bucket}

-- ---- steps
pub walk_none : (es : List Edge) (w : List ℕ) → walk es None w ≡ None
walk_none es [] = refl
walk_none es (a ∷ w) = walk_none es w

pub walk_push : (es : List Edge) (o : Option ℕ) (w : List ℕ) (a : ℕ) → walk es o (w ++ a ∷ []) ≡ go es (walk es o w) a
walk_push es o [] a = refl
walk_push es o (b ∷ w) a = walk_push es (go es o b) w a

pub edge_is : (p a : ℕ) (e : Edge) → is_edge p a e ≡ true → (p ≡ e.parent) × (a ≡ e.label)
edge_is p a e h = let q = and_parts (eqb p e.parent) (eqb a e.label) h in (eqb-true p e.parent q.0, eqb-true a e.label q.1)

pub own_edge : (p a : ℕ) → is_edge p a (edge p a) ≡ true
own_edge p a = and_from (eqb p p) (eqb a a) (eq-eqb p p refl) (eq-eqb a a refl)

-- a child, by the edge to it
end_some : (o : Option ℕ) (t : ℕ) → end o ≡ Some t → (i : ℕ) × (o ≡ Some i) × (t ≡ suc i)
end_some None t e = absurd (let z : ◌≡◌ {A = ℕ} 0 1 = cc in omega arith)
end_some (Some i) t e = (i, refl, let z : suc i ≡ t = cc in sym z)

pub child_edge : (es : List Edge) (p a t : ℕ) → child_of es p a ≡ Some t → (i : ℕ) × (t ≡ suc i) × (i < length es) × (p ≡ (get_or es i blank).parent) × (a ≡ (get_or es i blank).label)
child_edge es p a t e =
    let s = end_some (last_by (is_edge p a) es) t e in
    let q = edge_is p a (get_or es s.0 blank) (last_holds (is_edge p a) es blank s.0 s.1) in
    (s.0, s.2, last_within (is_edge p a) es s.0 s.1, q.0, q.1)

-- ---- one edge more
pub rising_more : (es : List Edge) (p a : ℕ) → Rising es → p ≤ length es → Rising (es ++ edge p a ∷ [])
rising_more es p a h t i l =
    let n = length_push es (edge p a) in
    ⊎_elim
    (λ (o : i < length es). subst (λ (e : Edge). e.parent ≤ i) (sym (get_or_append_left es (edge p a ∷ []) blank i o)) (h i o))
    (λ (o : length es ≤ i). let e : length es ≡ i = omega arith in subst (λ (x : Edge). x.parent ≤ i) (sym (get_or_push es (edge p a) blank i e)) (omega arith))
    (order i (length es))

child_more : (es : List Edge) (p a q b : ℕ) → child_of (es ++ edge p a ∷ []) q b ≡ cond (is_edge q b (edge p a)) (Some (suc (length es))) (child_of es q b)
child_more es p a q b = ap end (last_push (is_edge q b) es (edge p a)) ∙ end_cond (is_edge q b (edge p a)) (length es) (last_by (is_edge q b) es)
  where
    end_cond : (t : Bool) (n : ℕ) (o : Option ℕ) → end (cond t (Some n) o) ≡ cond t (Some (suc n)) (end o)
    end_cond true n o = refl
    end_cond false n o = refl

-- no edge comes from the end of the last
child_last : (es : List Edge) → Rising es → (q b : ℕ) → length es ≤ q → child_of es q b ≡ None
child_last es h q b l = none (child_of es q b) (λ t e. let c = child_edge es q b t e in let r = h c.0 c.2 in let s = c.3 in let u = c.2 in let z : ◌≡◌ {A = ℕ} 0 1 = absurd (omega (arith, r, s, u)) in absurd (omega arith))
  where
    none : (o : Option ℕ) → ((t : ℕ) → o ≡ Some t → ⊥) → o ≡ None
    none None f = refl
    none (Some t) f = absurd (f t refl)

-- from the new place no word leads to a mark
mark_new : (es : List Edge) (p a : ℕ) (ms : List (Option ℕ)) → Rising es → p ≤ length es → length ms ≡ length es → (w : List ℕ)
    → mark_at_lem (ms ++ None ∷ []) (walk (es ++ edge p a ∷ []) (Some (suc (length es))) w) ≡ None
mark_new es p a ms h t n [] =
    let k : length ms ≡ suc (length es) - 1 = omega arith in
    zero_cond (eqb (suc (length es)) 0) (get_or (ms ++ None ∷ []) (suc (length es) - 1) None) (get_or_push ms None None (suc (length es) - 1) k)
  where
    zero_cond : (b : Bool) (o : Option ℕ) → o ≡ None → cond b None o ≡ None
    zero_cond true o e = refl
    zero_cond false o e = e
mark_new es p a ms h t n (b ∷ w) =
    let m = length_push es (edge p a) in
    let c = child_last (es ++ edge p a ∷ []) (rising_more es p a h t) (suc (length es)) b (omega arith) in
    ap (λ o. mark_at_lem (ms ++ None ∷ []) (walk (es ++ edge p a ∷ []) o w)) c ∙ ap (mark_at_lem (ms ++ None ∷ [])) (walk_none (es ++ edge p a ∷ []) w)

mark_old : (ms : List (Option ℕ)) (q : ℕ) → q ≤ length ms → mark_at_lem (ms ++ None ∷ []) (Some q) ≡ mark_at_lem ms (Some q)
mark_old ms zero l = refl
mark_old ms (suc i) l = let e : suc i - 1 ≡ i = omega arith in let k : suc i - 1 < length ms = omega arith in ap (λ o. cond (eqb (suc i) 0) None o) (get_or_append_left ms (None ∷ []) None (suc i - 1) k)

module _ (es : List Edge) (p a : ℕ) (ms : List (Option ℕ)) (fresh : child_of es p a ≡ None) (rising : Rising es) (there : p ≤ length es) (even : length ms ≡ length es) where
  fresh_here : (q b : ℕ) → is_edge q b (edge p a) ≡ true → child_of es q b ≡ None
  fresh_here q b t = let k = edge_is q b (edge p a) t in let e : q ≡ p = k.0 in let f : b ≡ a = k.1 in ap (λ x. child_of es x b) e ∙ ap (child_of es p) f ∙ fresh

  -- the marks that words lead to are as before
  pub mark_went : (w : List ℕ) (o : Option ℕ) → ((t : ℕ) → o ≡ Some t → t ≤ length es) → mark_at_lem (ms ++ None ∷ []) (walk (es ++ edge p a ∷ []) o w) ≡ mark_at_lem ms (walk es o w)
  mark_went [] None h = refl
  mark_went [] (Some q) h = let l = h q refl in mark_old ms q (omega arith)
  mark_went (b ∷ w) None h = ap (mark_at_lem (ms ++ None ∷ [])) (walk_none (es ++ edge p a ∷ []) w) ∙ sym (ap (mark_at_lem ms) (walk_none es w))
  mark_went (b ∷ w) (Some q) h =
      let c = child_more es p a q b in
      ⊎_elim
      (λ (t : is_edge q b (edge p a) ≡ true).
      ap (λ o. mark_at_lem (ms ++ None ∷ []) (walk (es ++ edge p a ∷ []) o w)) (c ∙ ap (λ v. cond v (Some (suc (length es))) (child_of es q b)) t)
      ∙ mark_new es p a ms rising there even w
      ∙ sym (ap (λ o. mark_at_lem ms (walk es o w)) (fresh_here q b t) ∙ ap (mark_at_lem ms) (walk_none es w)))
      (λ (t : is_edge q b (edge p a) ≡ false).
      ap (λ o. mark_at_lem (ms ++ None ∷ []) (walk (es ++ edge p a ∷ []) o w)) (c ∙ ap (λ v. cond v (Some (suc (length es))) (child_of es q b)) t)
      ∙ mark_went w (child_of es q b) (λ u e. let k = child_edge es q b u e in let x = k.1 in let y = k.2 in omega (arith, x, y)))
      (cases_Bool (is_edge q b (edge p a)))

  pub mark_more : (w : List ℕ) → lookup (es ++ edge p a ∷ []) (ms ++ None ∷ []) w ≡ lookup es ms w
  mark_more w = mark_went w (Some 0) (λ t e. let z : 0 ≡ t = cc in omega arith)

  -- a word that led to a place leads there still
  walk_went : (w : List ℕ) (o : Option ℕ) (t : ℕ) → walk es o w ≡ Some t → walk (es ++ edge p a ∷ []) o w ≡ Some t
  walk_went [] o t e = e
  walk_went (b ∷ w) None t e = walk_went w None t e
  walk_went (b ∷ w) (Some q) t e =
      let c = child_more es p a q b in
      ⊎_elim
      (λ (x : is_edge q b (edge p a) ≡ true). let n : None ≡ Some t = sym (walk_none es w) ∙ sym (ap (λ o. walk es o w) (fresh_here q b x)) ∙ e in absurd (let z : ◌≡◌ {A = ℕ} 0 1 = cc in omega arith))
      (λ (x : is_edge q b (edge p a) ≡ false). ap (λ o. walk (es ++ edge p a ∷ []) o w) (c ∙ ap (λ v. cond v (Some (suc (length es))) (child_of es q b)) x) ∙ walk_went w (child_of es q b) t e)
      (cases_Bool (is_edge q b (edge p a)))

  pub leads_new : (w : List ℕ) → walk es (Some 0) w ≡ Some p → walk (es ++ edge p a ∷ []) (Some 0) (w ++ a ∷ []) ≡ Some (suc (length es))
  leads_new w e =
      walk_push (es ++ edge p a ∷ []) (Some 0) w a ∙ ap (λ o. go (es ++ edge p a ∷ []) o a) (walk_went w (Some 0) p e) ∙ child_more es p a p a
      ∙ ap (λ v. cond v (Some (suc (length es))) (child_of es p a)) (own_edge p a)

pub leads_old : (es : List Edge) (p a t : ℕ) → child_of es p a ≡ Some t → (w : List ℕ) → walk es (Some 0) w ≡ Some p → walk es (Some 0) (w ++ a ∷ []) ≡ Some t
leads_old es p a t c w e = walk_push es (Some 0) w a ∙ ap (λ o. go es o a) e ∙ c

-- ---- the word of each place
grow : List (List ℕ) → List Edge → List (List ℕ)
grow acc [] = acc
grow acc (e ∷ es) = grow (acc ++ (get_or acc e.parent [] ++ e.label ∷ []) ∷ []) es

grow_keeps : (acc : List (List ℕ)) (es : List Edge) (i : ℕ) → i < length acc → get_or (grow acc es) i [] ≡ get_or acc i []
unfolding grow
grow_keeps acc [] i l = refl
grow_keeps acc (e ∷ es) i l =
    let x = get_or acc e.parent [] ++ e.label ∷ [] in
    let n = length_push acc x in
    grow_keeps (acc ++ x ∷ []) es i (omega arith) ∙ get_or_append_left acc (x ∷ []) [] i l

grow_law : (acc : List (List ℕ)) (es : List Edge) → ((i : ℕ) → i < length es → (get_or es i blank).parent < length acc + i) → (c : ℕ) → c < length es
    → get_or (grow acc es) (length acc + c) [] ≡ get_or (grow acc es) (get_or es c blank).parent [] ++ (get_or es c blank).label ∷ []
unfolding grow
grow_law acc [] h c l = absurd (omega arith)
grow_law acc (e ∷ es) h zero l =
    let x = get_or acc e.parent [] ++ e.label ∷ [] in
    let n = length_push acc x in
    let z : length acc + 0 ≡ length acc = omega arith in
    let w = h 0 (omega arith) in
    let w' : e.parent < length acc = omega arith in
    ap (λ k. get_or (grow (acc ++ x ∷ []) es) k []) z ∙ grow_keeps (acc ++ x ∷ []) es (length acc) (omega arith) ∙ get_or_push acc x [] (length acc) refl
    ∙ sym (ap (λ v. v ++ e.label ∷ []) (grow_keeps (acc ++ x ∷ []) es e.parent (omega arith) ∙ get_or_append_left acc (x ∷ []) [] e.parent w'))
grow_law acc (e ∷ es) h (suc c) l =
    let x = get_or acc e.parent [] ++ e.label ∷ [] in
    let n = length_push acc x in
    let z : length acc + suc c ≡ length (acc ++ x ∷ []) + c = omega arith in
    ap (λ k. get_or (grow (acc ++ x ∷ []) es) k []) z ∙ grow_law (acc ++ x ∷ []) es (λ i b. let g = h (suc i) (omega arith) in omega (arith, g)) c (omega arith)

word_at : List Edge → ℕ → List ℕ
word_at es t = get_or (grow ([] ∷ []) es) t []

word_none : (es : List Edge) (w : List ℕ) (t : ℕ) (P : Type 0) → walk es None w ≡ Some t → P
word_none es w t P e = let n : None ≡ Some t = sym (walk_none es w) ∙ e in absurd (let z : ◌≡◌ {A = ℕ} 0 1 = cc in omega arith)

word_child : (es : List Edge) → Rising es → (q b u : ℕ) → child_of es q b ≡ Some u → word_at es u ≡ word_at es q ++ b ∷ []
unfolding word_at
word_child es h q b u e =
    let c = child_edge es q b u e in
    let x = c.1 in
    let z : u ≡ 1 + c.0 = omega (arith, x) in
    ap (word_at es) z
    ∙ grow_law ([] ∷ []) es (λ i l. let r = h i l in omega (arith, r)) c.0 c.2
    ∙ ap (λ k. word_at es k ++ (get_or es c.0 blank).label ∷ []) (sym c.3)
    ∙ ap (λ k. word_at es q ++ k ∷ []) (sym c.4)

word_by : (es : List Edge) → Rising es → (r b : ℕ) (w : List ℕ) (t : ℕ) (o : Option ℕ) → child_of es r b ≡ o → walk es o w ≡ Some t
    → ((u : ℕ) → o ≡ Some u → word_at es t ≡ word_at es u ++ w) → word_at es t ≡ word_at es r ++ b ∷ w
word_by es h r b w t None k f rec = word_none es w t (word_at es t ≡ word_at es r ++ b ∷ w) f
word_by es h r b w t (Some u) k f rec = rec u refl ∙ ap (λ v. v ++ w) (word_child es h r b u k) ∙ append_assoc (word_at es r) (b ∷ []) w

word_went : (es : List Edge) → Rising es → (w : List ℕ) (o : Option ℕ) (q t : ℕ) → o ≡ Some q → walk es o w ≡ Some t → word_at es t ≡ word_at es q ++ w
word_went es h [] o q t s e = let z : t ≡ q = cc in ap (word_at es) z ∙ sym (append-nil (word_at es q))
word_went es h (b ∷ w) None q t s e = word_none es w t (word_at es t ≡ word_at es q ++ b ∷ w) e
word_went es h (b ∷ w) (Some r) q t s e =
    let z : r ≡ q = cc in
    word_by es h r b w t (child_of es r b) refl e (λ u k. word_went es h w (child_of es r b) u t k e) ∙ ap (λ v. word_at es v ++ b ∷ w) z

-- no two words lead to one place
pub place_unique : (es : List Edge) → Rising es → (w w' : List ℕ) (t : ℕ) → walk es (Some 0) w ≡ Some t → walk es (Some 0) w' ≡ Some t → w ≡ w'
place_unique es h w w' t e f = append_cancel_left (word_at es 0) w w' (sym (word_went es h w (Some 0) 0 t refl e) ∙ word_went es h w' (Some 0) 0 t refl f)

-- ---- a mark at the place to which a word leads
pub mark_there : (es : List Edge) (ms : List (Option ℕ)) (w : List ℕ) (t k : ℕ) → 0 < t → t ≤ length ms → walk es (Some 0) w ≡ Some t → lookup es (set ms (t - 1) (Some k)) w ≡ Some k
mark_there es ms w t k l m e =
    let n : t - 1 < length ms = omega arith in
    ap (mark_at_lem (set ms (t - 1) (Some k))) e ∙ ap (λ b. cond b None (get_or (set ms (t - 1) (Some k)) (t - 1) None)) (ne_eqb t 0 (λ z. omega arith)) ∙ get_or-set_same ms (t - 1) (Some k) None n

mark_apart : (ms : List (Option ℕ)) (t k : ℕ) → 0 < t → (o : Option ℕ) → (o ≡ Some t → ⊥) → mark_at_lem (set ms (t - 1) (Some k)) o ≡ mark_at_lem ms o
mark_apart ms t k l None h = refl
mark_apart ms t k l (Some zero) h = refl
mark_apart ms t k l (Some (suc u)) h =
    ⊎_elim
    (λ (e : suc u ≡ t). absurd (h (ap Some e)))
    (λ (e : suc u ≡ t → ⊥). let d : suc u - 1 ≢ t - 1 = omega arith in ap (λ v. cond (eqb (suc u) 0) None v) (get_or-set_other ms (t - 1) (suc u - 1) (Some k) None d))
    (cases_eq (suc u) t)

pub mark_elsewhere : (es : List Edge) (ms : List (Option ℕ)) → Rising es → (w w' : List ℕ) (t k : ℕ) → 0 < t → walk es (Some 0) w ≡ Some t → (w ≡ w' → ⊥) → lookup es (set ms (t - 1) (Some k)) w' ≡ lookup es ms w'
mark_elsewhere es ms h w w' t k l e d = mark_apart ms t k l (walk es (Some 0) w') (λ f. d (place_unique es h w w' t e f))

pub mark_past : (ms : List (Option ℕ)) (t : ℕ) → length ms ≤ t - 1 → mark_at_lem ms (Some t) ≡ None
mark_past ms t l = by (eqb t 0)
  where
    by : (b : Bool) → cond b None (get_or ms (t - 1) None) ≡ None
    by true = refl
    by false = get_or_past ms (t - 1) None l

-- ---- what `make_child` leaves
pub made_parts : (es es' : List Edge) (bs bs' : List ℕ) (p a x : ℕ)
    → es' ≡ es ++ edge p a ∷ [] → bs' ≡ bs ++ x ∷ [] → x ≡ bucket p a → bs ≡ map bucket_of_lem es → Rising es → p ≤ length es
    → (bs' ≡ map bucket_of_lem es') × Rising es'
made_parts es es' bs bs' p a x ee eb ex hb hr hp = (
  eb ∙ ap (λ v. bs ++ v ∷ []) ex ∙ ap (λ v. v ++ bucket p a ∷ []) hb ∙ sym (map_push bucket_of_lem es (edge p a)) ∙ ap (map bucket_of_lem) (sym ee),
  subst Rising (sym ee) (rising_more es p a hr hp),
)

pub made_leads : (es es' : List Edge) (ms ms' : List (Option ℕ)) (p a n : ℕ)
    → es' ≡ es ++ edge p a ∷ [] → ms' ≡ ms ++ None ∷ [] → n ≡ length es' → None ≡ child_of es p a → length ms ≡ length es → Rising es → p ≤ length es
    → ((w : List ℕ) → lookup es' ms' w ≡ lookup es ms w) × ((w : List ℕ) → walk es (Some 0) w ≡ Some p → walk es' (Some 0) (w ++ a ∷ []) ≡ Some n) × (n ≤ length es') × (length es' ≤ length es + 1)
made_leads es es' ms ms' p a n ee em en fresh hm hr hp =
    let k = ap length ee ∙ length_push es (edge p a) in
    let z : suc (length es) ≡ n = omega arith in (
      λ w. ap (λ v. lookup v ms' w) ee ∙ ap (λ v. lookup (es ++ edge p a ∷ []) v w) em ∙ mark_more es p a ms (sym fresh) hr hp hm w,
      λ w e. ap (λ v. walk v (Some 0) (w ++ a ∷ [])) ee ∙ leads_new es p a ms (sym fresh) hr hp hm w e ∙ ap Some z,
      omega arith,
      omega arith,
    )
