-- The last entry of each bucket, and what is left after one entry more.
use Rattle.std.proofs.Common.{◌≡◌, ℕ, zero, suc, ◌+◌, ◌<◌, ◌≤◌, Bool, true, false, cond, eqb, List, [], ◌∷◌, ◌++◌, map, length, get_or, take, set, Some, None, Option, sym, refl, ap, ◌∙◌, subst, ⊎_elim, arith}
use Rattle.std.proofs.lemmas.List.{take_more, take_all, take-take, length-take-le, get_or-take, get_or-set_same, get_or-set_other, length-set, get_or_append_left, get_or_push, length_push, take-append-le, take_at, get_or_read, map_push, take-map, get_or-map}
use lib.ListN.{length-map}
use Rattle.std.proofs.lemmas.Bool.{cases_eq, eq-eqb, ne_eqb, eqb-true}
use Rattle.std.proofs.str.Laws.{order}
use Rattle.chains.specs.Last.{or_here, last_by, up_to}
use Rattle.chains.specs.declared.Link.{Link}
use Rattle.chains.specs.Linked.{Heads, Befores, Small, bucket_of, before_of}

never : {P : Type 0} → true ≡ false → P
never e = absurd (let z : ◌≡◌ {A = ℕ} 0 1 = cc in omega arith)

or_here_cond : (b c : Bool) (n : ℕ) (o : Option ℕ) → or_here b (cond c (Some n) o) ≡ cond c (Some (suc n)) (or_here b o)
or_here_cond b true n o = refl
or_here_cond b false n o = refl

-- one element more
pub last_push : {X : Type 0} (f : X → Bool) (xs : List X) (x : X) → last_by f (xs ++ x ∷ []) ≡ cond (f x) (Some (length xs)) (last_by f xs)
last_push f [] x = refl
last_push f (y ∷ xs) x = ap (or_here (f y)) (last_push f xs x) ∙ or_here_cond (f y) (f x) (length xs) (last_by f xs)

-- what is found lies within, and passes the test
within_here : {X : Type 0} (b : Bool) (xs : List X) (o : Option ℕ) (i : ℕ) → ((j : ℕ) → o ≡ Some j → j < length xs) → or_here b o ≡ Some i → i < suc (length xs)
within_here true xs None i h e = let z : 0 ≡ i = cc in omega arith
within_here false xs None i h e = absurd (let z : ◌≡◌ {A = ℕ} 0 1 = cc in omega arith)
within_here b xs (Some j) i h e = let z : suc j ≡ i = cc in let w = h j refl in omega arith

pub last_within : {X : Type 0} (f : X → Bool) (xs : List X) (i : ℕ) → last_by f xs ≡ Some i → i < length xs
last_within f [] i e = absurd (let z : ◌≡◌ {A = ℕ} 0 1 = cc in omega arith)
last_within f (x ∷ xs) i e = within_here (f x) xs (last_by f xs) i (λ j h. last_within f xs j h) e

holds_here : {X : Type 0} (f : X → Bool) (x : X) (xs : List X) (d : X) (b : Bool) (o : Option ℕ) (i : ℕ) → b ≡ f x → ((j : ℕ) → o ≡ Some j → f (get_or xs j d) ≡ true) → or_here b o ≡ Some i → f (get_or (x ∷ xs) i d) ≡ true
holds_here f x xs d true None zero s h e = sym s
holds_here f x xs d true None (suc i) s h e = absurd (let z : 0 ≡ suc i = cc in omega arith)
holds_here f x xs d false None i s h e = absurd (let z : ◌≡◌ {A = ℕ} 0 1 = cc in omega arith)
holds_here f x xs d b (Some j) zero s h e = absurd (let z : suc j ≡ 0 = cc in omega arith)
holds_here f x xs d b (Some j) (suc i) s h e = let z : suc j ≡ suc i = cc in let w : j ≡ i = omega arith in h i (ap Some w)

pub last_holds : {X : Type 0} (f : X → Bool) (xs : List X) (d : X) (i : ℕ) → last_by f xs ≡ Some i → f (get_or xs i d) ≡ true
last_holds f [] d i e = absurd (let z : ◌≡◌ {A = ℕ} 0 1 = cc in omega arith)
last_holds f (x ∷ xs) d i e = holds_here f x xs d (f x) (last_by f xs) i refl (λ j h. last_holds f xs d j h) e

-- ---- what the heads and the links are after one push, and after one pop
-- no entry is in a bucket that is not there
pub none_wide : (w : ℕ) (bs : List ℕ) (b : ℕ) → w ≤ b → Small w bs → None ≡ last_by (eqb b) bs
none_wide w bs b l h = by (last_by (eqb b) bs) (λ i e. let u = last_within (eqb b) bs i e in let v = eqb-true b (get_or bs i 0) (last_holds (eqb b) bs 0 i e) in let m = h i u in omega arith)
  where
    by : (o : Option ℕ) → ((i : ℕ) → o ≡ Some i → ⊥) → None ≡ o
    by None f = refl
    by (Some i) f = absurd (f i refl)

small_push : (w : ℕ) (bs : List ℕ) (x : ℕ) → x < w → Small w bs → Small w (bs ++ x ∷ [])
small_push w bs x l h i m =
    let n = length_push bs x in
    ⊎_elim
    (λ (o : i < length bs). subst (λ k. k < w) (sym (get_or_append_left bs (x ∷ []) 0 i o)) (h i o))
    (λ (o : length bs ≤ i). let e : length bs ≡ i = omega arith in subst (λ k. k < w) (sym (get_or_push bs x 0 i e)) l)
    (order i (length bs))

pub heads_push : (hs : List (Option ℕ)) (bs : List ℕ) (x : ℕ) → x < length hs → Heads hs bs → Heads (set hs x (Some (length bs))) (bs ++ x ∷ [])
heads_push hs bs x l h b m =
    let n = length-set hs x (Some (length bs)) in
    let p = last_push (eqb b) bs x in
    ⊎_elim
    (λ (e : b ≡ x). subst (λ y. get_or (set hs x (Some (length bs))) y None ≡ last_by (eqb b) (bs ++ x ∷ [])) (sym e)
    (get_or-set_same hs x (Some (length bs)) None l ∙ sym (p ∙ ap (λ t. cond t (Some (length bs)) (last_by (eqb b) bs)) (eq-eqb b x e))))
    (λ (e : b ≡ x → ⊥). get_or-set_other hs x b (Some (length bs)) None e ∙ h b (omega arith) ∙ sym (p ∙ ap (λ t. cond t (Some (length bs)) (last_by (eqb b) bs)) (ne_eqb b x e)))
    (cases_eq b x)

pub befores_push : (fs : List (Option ℕ)) (bs : List ℕ) (x : ℕ) (o : Option ℕ) → length fs ≡ length bs → o ≡ last_by (eqb x) bs → Befores fs bs → Befores (fs ++ o ∷ []) (bs ++ x ∷ [])
befores_push fs bs x o s q h i m =
    let n = length_push fs o in
    ⊎_elim
    (λ (l : i < length fs).
    let k : i < length bs = omega arith in
    let k' : i ≤ length bs = omega arith in
    get_or_append_left fs (o ∷ []) None i l ∙ h i l ∙ ap (λ y. last_by (eqb y) (take i bs)) (sym (get_or_append_left bs (x ∷ []) 0 i k)) ∙ ap (last_by (eqb (get_or (bs ++ x ∷ []) i 0))) (sym (take-append-le i bs (x ∷ []) k')))
    (λ (l : length fs ≤ i).
    let e : length fs ≡ i = omega arith in
    let e' : length bs ≡ i = omega arith in
    get_or_push fs o None i e ∙ q ∙ ap (λ y. last_by (eqb y) bs) (sym (get_or_push bs x 0 i e')) ∙ ap (last_by (eqb (get_or (bs ++ x ∷ []) i 0))) (sym (take_at bs (x ∷ []) i e')))
    (order i (length fs))

pub same_up : (o o' : Option ℕ) → up_to o ≡ up_to o' → o ≡ o'
same_up None None e = refl
same_up None (Some i) e = absurd (omega arith)
same_up (Some i) None e = absurd (omega arith)
same_up (Some i) (Some j) e = let z : i ≡ j = omega arith in ap Some z

module _ (bs : List ℕ) (n : ℕ) (few : n ≤ length bs) where
  pub small_take : (w : ℕ) → Small w bs → Small w (take n bs)
  small_take w h i l =
      let k = length-take-le n bs few in
      let a : i < n = omega arith in
      subst (λ x. x < w) (sym (get_or-take n bs i 0 a)) (h i (omega arith))

  pub befores_take : (fs : List (Option ℕ)) → length fs ≡ length bs → Befores fs bs → Befores (take n fs) (take n bs)
  befores_take fs s h i l =
      let k = length-take-le n fs (omega arith) in
      let a : i < n = omega arith in
      let a' : i ≤ n = omega arith in
      get_or-take n fs i None a ∙ h i (omega arith) ∙ ap (λ x. last_by (eqb x) (take i bs)) (sym (get_or-take n bs i 0 a))
      ∙ ap (last_by (eqb (get_or (take n bs) i 0))) (sym (take-take i n bs a'))

pub heads_pop : (hs : List (Option ℕ)) (bs : List ℕ) (n x : ℕ) (o : Option ℕ) → length bs ≡ n + 1 → x ≡ get_or bs n 0 → x < length hs → o ≡ last_by (eqb x) (take n bs) → Heads hs bs → Heads (set hs x o) (take n bs)
heads_pop hs bs n x o long ex l eo h b m =
    let q = length-set hs x o in
    let w : n < length bs = omega arith in
    let whole : bs ≡ take n bs ++ x ∷ [] =
    sym (take_all (n + 1) bs (omega arith)) ∙ take_more bs n 0 w ∙ ap (λ y. take n bs ++ y ∷ []) (sym ex) in
    let p = last_push (eqb b) (take n bs) x in
    ⊎_elim
    (λ (e : b ≡ x). subst (λ y. get_or (set hs x o) y None ≡ last_by (eqb y) (take n bs)) (sym e) (get_or-set_same hs x o None l ∙ eo))
    (λ (e : b ≡ x → ⊥).
    get_or-set_other hs x b o None e ∙ h b (omega arith) ∙ ap (last_by (eqb b)) whole ∙ p ∙ ap (λ t. cond t (Some (length (take n bs))) (last_by (eqb b) (take n bs))) (ne_eqb b x e))
    (cases_eq b x)

links_len : (ls : List Link) → length (map before_of ls) ≡ length (map bucket_of ls)
links_len ls = length-map ls before_of ∙ sym (length-map ls bucket_of)

-- what `push` leaves
pub link_pushed : (hs : List (Option ℕ)) (ls ls' : List Link) (x n : ℕ) (o : Option ℕ) → x < length hs → n ≡ length ls → o ≡ get_or hs x o → ls' ≡ ls ++ record { bucket = x; before = o } ∷ []
    → Small (length hs) (map bucket_of ls) → Heads hs (map bucket_of ls) → Befores (map before_of ls) (map bucket_of ls)
    → Small (length (set hs x (Some n))) (map bucket_of ls') × Heads (set hs x (Some n)) (map bucket_of ls') × Befores (map before_of ls') (map bucket_of ls')
link_pushed hs ls ls' x n o l en eo e sm h b =
    let k : Link = record { bucket = x; before = o } in
    let bs : List ℕ = map bucket_of ls in
    let eb : map bucket_of ls' ≡ bs ++ x ∷ [] = ap (map bucket_of) e ∙ map_push bucket_of ls k in
    let ef : map before_of ls' ≡ map before_of ls ++ o ∷ [] = ap (map before_of) e ∙ map_push before_of ls k in
    let a : o ≡ last_by (eqb x) bs = get_or_read hs x o l eo None ∙ h x l in
    let m : n ≡ length bs = en ∙ sym (length-map ls bucket_of) in (
      subst (λ w. Small w (map bucket_of ls')) (sym (length-set hs x (Some n))) (subst (Small (length hs)) (sym eb) (small_push (length hs) bs x l sm)),
      subst (λ ys. Heads (set hs x (Some n)) ys) (sym eb) (subst (λ i. Heads (set hs x (Some i)) (bs ++ x ∷ [])) (sym m) (heads_push hs bs x l h)),
      subst (λ ys. Befores (map before_of ls') ys) (sym eb) (subst (λ ys. Befores ys (bs ++ x ∷ [])) (sym ef) (befores_push (map before_of ls) bs x o (links_len ls) a b)),
    )

-- what `pop` leaves
pub link_popped : (hs : List (Option ℕ)) (ls ls' : List Link) (n : ℕ) (k : Link) → length ls ≡ n + 1 → k ≡ get_or ls n k → ls' ≡ take n ls
    → Small (length hs) (map bucket_of ls) → Heads hs (map bucket_of ls) → Befores (map before_of ls) (map bucket_of ls)
    → Small (length (set hs k.bucket k.before)) (map bucket_of ls') × Heads (set hs k.bucket k.before) (map bucket_of ls') × Befores (map before_of ls') (map bucket_of ls')
link_popped hs ls ls' n k long ek e sm h b =
    let l : n < length ls = omega arith in
    let bs : List ℕ = map bucket_of ls in
    let many : length bs ≡ n + 1 = length-map ls bucket_of ∙ long in
    let few : n ≤ length bs = omega arith in
    let same : length (map before_of ls) ≡ length bs = links_len ls in
    let x : k.bucket ≡ get_or bs n 0 = ap bucket_of ek ∙ sym (get_or-map bucket_of ls n k 0 l) in
    let o : k.before ≡ get_or (map before_of ls) n None = ap before_of ek ∙ sym (get_or-map before_of ls n k None l) in
    let before : k.before ≡ last_by (eqb k.bucket) (take n bs) = o ∙ b n (omega arith) ∙ ap (λ y. last_by (eqb y) (take n bs)) (sym x) in
    let inside = sm n (omega arith) in
    let eb : map bucket_of ls' ≡ take n bs = ap (map bucket_of) e ∙ sym (take-map bucket_of n ls) in
    let ef : map before_of ls' ≡ take n (map before_of ls) = ap (map before_of) e ∙ sym (take-map before_of n ls) in (
      subst (λ w. Small w (map bucket_of ls')) (sym (length-set hs k.bucket k.before)) (subst (Small (length hs)) (sym eb) (small_take bs n few (length hs) sm)),
      subst (λ ys. Heads (set hs k.bucket k.before) ys) (sym eb) (heads_pop hs bs n k.bucket k.before many x (omega arith) before h),
      subst (λ ys. Befores (map before_of ls') ys) (sym eb) (subst (λ ys. Befores ys (take n bs)) (sym ef) (befores_take bs n few (map before_of ls) same b)),
    )
