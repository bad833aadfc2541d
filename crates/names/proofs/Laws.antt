-- What a table of names keeps as it grows and shrinks.
use Rattle.std.proofs.Common.{◌≡◌, ℕ, zero, suc, ◌+◌, ◌-◌, ◌*◌, ◌<◌, ◌≤◌, Bool, true, false, cond, eqb, ltb, leb, List, [], ◌∷◌, ◌++◌, length, get_or, take, drop, Some, None, Ok, Err, sym, refl, ap, ◌∙◌, subst, le_of_suc-le-suc, not-suc-le-zero, arith, length-drop}
use Rattle.std.specs.Str.{bytes_eq}
use Rattle.std.proofs.lemmas.List.{map-append, take-take, take-append-le, drop-append-le, drop-take, take-map, drop_at, take_all, at_drop_more, at_drop_all}
use Rattle.std.specs.Cmp.Lexicographic.{pointwise}
use Rattle.std.proofs.lemmas.Bool.{and_parts, and_from, leb-true, le-leb, lt-leb, lt-ltb, le-ltb, eqb-true, eq-eqb, cond-true, cond-false}
use Rattle.std.proofs.lemmas.Slice.Eq.{slice_eq-Decides, bytes_eq-Decides}
use Rattle.std.proofs.lemmas.Bool.Decides.{same_from_decides, Decides-eqb}
use Rattle.names.specs.declared.part.NoNumber.TheVariants as refused
use Rattle.names.specs.declared.part.Part.{Part}
use Rattle.names.specs.Numbers.{number, met, name_at, takes, number_or_none, names_after}
use Rattle.names.specs.Parts.{part_of, parts_of, fit, in_order}

-- the first part, and the rest
pub record First (from : ℕ) (p : Part) (ps : List Part) (end : ℕ) : Type 0 where
  pub start : p.start ≡ from
  pub short : p.len ≤ 32
  pub rest : in_order (from + p.len) ps end ≡ true

first : (from : ℕ) (p : Part) (ps : List Part) (end : ℕ) → in_order from (p ∷ ps) end ≡ true → First from p ps end
first from p ps end h =
    let b = and_parts (fit from p) (in_order (from + p.len) ps end) h in
    let f = and_parts (eqb p.start from) (leb p.len 32) b.0 in
    record { start = eqb-true p.start from f.0; short = leb-true p.len 32 f.1; rest = b.1 }

again : (from : ℕ) (p : Part) (ps : List Part) (end : ℕ) → First from p ps end → in_order from (p ∷ ps) end ≡ true
again from p ps end h = and_from (fit from p) (in_order (from + p.len) ps end) (and_from (eqb p.start from) (leb p.len 32) (eq-eqb p.start from h.start) (le-leb p.len 32 h.short)) h.rest

-- the parts end at or after their start, and have at most 32 bytes each
pub span : (from : ℕ) (ps : List Part) (end : ℕ) → in_order from ps end ≡ true → (from ≤ end) × (end ≤ from + 32 * length ps)
span from [] end h = let e = eqb-true from end h in (omega arith, omega arith)
span from (p ∷ ps) end h =
    let f = first from p ps end h in
    let later = span (from + p.len) ps end f.rest in
    (omega arith, omega (arith, f.short))

-- each part lies before the end
pub part_within : (from : ℕ) (ps : List Part) (end i : ℕ) (d : Part) → in_order from ps end ≡ true → i < length ps → (get_or ps i d).start + (get_or ps i d).len ≤ end
part_within from [] end i d h l = absurd (not-suc-le-zero l)
part_within from (p ∷ ps) end zero d h l = let f = first from p ps end h in let s = span (from + p.len) ps end f.rest in omega arith
part_within from (p ∷ ps) end (suc i) d h l = part_within (from + p.len) ps end i d (first from p ps end h).rest (le_of_suc-le-suc l)

-- one more part at the end
pub ordered_push : (from : ℕ) (ps : List Part) (end : ℕ) (p : Part) → in_order from ps end ≡ true → p.start ≡ end → p.len ≤ 32 → in_order from (ps ++ p ∷ []) (end + p.len) ≡ true
ordered_push from [] end p h s l = let e = eqb-true from end h in again from p [] (end + p.len) (record { start = omega arith; short = l; rest = eq-eqb (from + p.len) (end + p.len) (omega arith) })
ordered_push from (q ∷ ps) end p h s l =
    let f = first from q ps end h in
    again from q (ps ++ p ∷ []) (end + p.len) (record { start = f.start; short = f.short; rest = ordered_push (from + q.len) ps end p f.rest s l })

-- the first n parts end where the next begins
pub ordered_take : (from : ℕ) (ps : List Part) (end n : ℕ) (d : Part) → in_order from ps end ≡ true → n < length ps → in_order from (take n ps) (get_or ps n d).start ≡ true
ordered_take from [] end n d h l = absurd (not-suc-le-zero l)
ordered_take from (p ∷ ps) end zero d h l = let f = first from p ps end h in eq-eqb from p.start (sym f.start)
ordered_take from (p ∷ ps) end (suc n) d h l =
    let f = first from p ps end h in
    again from p (take n ps) (get_or ps n d).start (record { start = f.start; short = f.short; rest = ordered_take (from + p.len) ps end n d f.rest (le_of_suc-le-suc l) })

-- names within the first bytes are the same in a longer list
part_grown : (bytes more : List ℕ) (p : Part) → p.start + p.len ≤ length bytes → part_of (bytes ++ more) p ≡ part_of bytes p
part_grown bytes more p h =
    let s : p.start ≤ length bytes = omega arith in
    let t : p.len ≤ length (drop p.start bytes) = simp length-drop (omega arith) in
    ap (take p.len) (drop-append-le p.start bytes more s) ∙ take-append-le p.len (drop p.start bytes) more t

pub names_grown : (from : ℕ) (bytes more : List ℕ) (ps : List Part) → in_order from ps (length bytes) ≡ true → parts_of (bytes ++ more) ps ≡ parts_of bytes ps
names_grown from bytes more [] h = refl
names_grown from bytes more (p ∷ ps) h =
    let f = first from p ps (length bytes) h in
    let s = span (from + p.len) ps (length bytes) f.rest in
    let e = part_grown bytes more p (omega arith) in
    let r = names_grown (from + p.len) bytes more ps f.rest in
    cc

-- and in the list cut after them
part_cut : (bytes : List ℕ) (k : ℕ) (p : Part) → p.start + p.len ≤ k → part_of (take k bytes) p ≡ part_of bytes p
part_cut bytes k p h =
    let e : k ≡ p.start + (k - p.start) = omega arith in
    let l : p.len ≤ k - p.start = omega arith in
    ap (λ n. take p.len (drop p.start (take n bytes))) e ∙ ap (take p.len) (drop-take p.start (k - p.start) bytes) ∙ take-take p.len (k - p.start) (drop p.start bytes) l

pub names_cut : (from : ℕ) (bytes : List ℕ) (k : ℕ) (ps : List Part) → in_order from ps k ≡ true → parts_of (take k bytes) ps ≡ parts_of bytes ps
names_cut from bytes k [] h = refl
names_cut from bytes k (p ∷ ps) h =
    let f = first from p ps k h in
    let s = span (from + p.len) ps k f.rest in
    let e = part_cut bytes k p (omega arith) in
    let r = names_cut (from + p.len) bytes k ps f.rest in
    cc

-- the names after one more
pub names_push : (bytes name : List ℕ) (ps : List Part) (p : Part) → in_order 0 ps (length bytes) ≡ true → p.start ≡ length bytes → p.len ≡ length name → parts_of (bytes ++ name) (ps ++ p ∷ []) ≡ parts_of bytes ps ++ name ∷ []
names_push bytes name ps p h s l =
    let last : part_of (bytes ++ name) p ≡ name = ap (take p.len) (drop_at bytes name p.start (sym s)) ∙ take_all p.len name (omega arith) in
    let old = names_grown 0 bytes name ps h in
    let split = map-append (part_of (bytes ++ name)) ps (p ∷ []) in
    cc

-- the names cut down to the first n
pub names_take : (bytes : List ℕ) (ps : List Part) (end n : ℕ) (d : Part) → in_order 0 ps end ≡ true → n < length ps → parts_of (take (get_or ps n d).start bytes) (take n ps) ≡ take n (parts_of bytes ps)
names_take bytes ps end n d h l = names_cut 0 bytes (get_or ps n d).start (take n ps) (ordered_take 0 ps end n d h l) ∙ sym (take-map (part_of bytes) n ps)

pub eq_told : (xs ys : List ℕ) (r : Bool) → r ≡ pointwise eqb xs ys → r ≡ bytes_eq xs ys
eq_told xs ys r m = same_from_decides r (bytes_eq xs ys) (slice_eq-Decides Decides-eqb xs ys r m) (bytes_eq-Decides xs ys)

pub ordered_grown : (ps ps' : List Part) (end end' : ℕ) (p : Part) → in_order 0 ps end ≡ true → ps' ≡ ps ++ p ∷ [] → end' ≡ end + p.len → p.start ≡ end → p.len ≤ 32 → in_order 0 ps' end' ≡ true
ordered_grown ps ps' end end' p h e f s l = let o = ordered_push 0 ps end p h s l in subst (λ (k : ℕ). in_order 0 ps' k ≡ true) (sym f) (subst (λ (qs : List Part). in_order 0 qs (end + p.len) ≡ true) (sym e) o)

-- Numbers, from the number among the names that are left.
pub number_here : (names : List (List ℕ)) (name : List ℕ) (i : ℕ) → i < length names → bytes_eq (get_or names i []) name ≡ true → number (drop i names) name ≡ 0
number_here names name i h e = at_drop_more (λ l. number l name) names i [] h ∙ cond-true _ _ _ e

pub number_on : (names : List (List ℕ)) (name : List ℕ) (i : ℕ) → i < length names → bytes_eq (get_or names i []) name ≡ false
    → i + 1 + number (drop (i + 1) names) name ≡ i + number (drop i names) name
number_on names name i h e = let s = at_drop_more (λ l. number l name) names i [] h ∙ cond-false _ _ _ e in omega arith

pub number_none : (names : List (List ℕ)) (name : List ℕ) (i : ℕ) → length names ≤ i → number (drop i names) name ≡ 0
number_none names name i h = at_drop_all (λ l. number l name) names i h

-- a name that is there is not added, and one that is not comes last
met_there : (ys : List (List ℕ)) (x : List ℕ) → number ys x < length ys → met ys x ≡ ys
met_there [] x h = absurd (omega arith)
met_there (y ∷ ys) x h = go (bytes_eq y x) h (met_there ys x)
  where
    go : (c : Bool) → cond c 0 (suc (number ys x)) < suc (length ys) → (number ys x < length ys → met ys x ≡ ys) → cond c (y ∷ ys) (y ∷ met ys x) ≡ y ∷ ys
    go true h f = refl
    go false h f = ap (λ l. y ∷ l) (f (omega arith))

met_new : (ys : List (List ℕ)) (x : List ℕ) → length ys ≤ number ys x → met ys x ≡ ys ++ x ∷ []
met_new [] x h = refl
met_new (y ∷ ys) x h = go (bytes_eq y x) h (met_new ys x)
  where
    go : (c : Bool) → suc (length ys) ≤ cond c 0 (suc (number ys x)) → (length ys ≤ number ys x → met ys x ≡ ys ++ x ∷ []) → cond c (y ∷ ys) (y ∷ met ys x) ≡ y ∷ (ys ++ x ∷ [])
    go true h f = absurd (omega arith)
    go false h f = ap (λ l. y ∷ l) (f (omega arith))

pub number_most : (ys : List (List ℕ)) (x : List ℕ) → number ys x ≤ length ys
number_most [] x = omega arith
number_most (y ∷ ys) x = go (bytes_eq y x) (number_most ys x)
  where
    go : (c : Bool) → number ys x ≤ length ys → cond c 0 (suc (number ys x)) ≤ suc (length ys)
    go true h = omega arith
    go false h = omega arith

-- What comes of a name: too long, there already, one too many, or new.
module _ (limit : ℕ) (names : List (List ℕ)) (x : List ℕ) where
  pub too_long : 32 < length x → takes limit names x ≡ false
  too_long h = rw (lt-leb (length x) 32 h)

  pub taken_short : length x ≤ 32 → number names x < limit → takes limit names x ≡ true
  taken_short h k = and_from (leb (length x) 32) (ltb (number names x) limit) (le-leb (length x) 32 h) (lt-ltb (number names x) limit k)

  pub no_more : length x ≤ 32 → limit ≤ number names x → takes limit names x ≡ false
  no_more h k = rw (le-leb (length x) 32 h, le-ltb (number names x) limit k)

  pub refused_names : takes limit names x ≡ false → (Err refused.Full ≡ number_or_none limit names x) × (names ≡ names_after limit names x)
  refused_names e = (sym (cond-false _ _ _ e), sym (cond-false _ _ _ e))

  pub there_names : length x ≤ 32 → length names ≤ limit → (n : ℕ) → n ≡ number names x → n < length names → (Ok n ≡ number_or_none limit names x) × (names ≡ names_after limit names x)
  there_names h k n e l =
      let t = taken_short h (omega arith) in
      (ap Ok e ∙ sym (cond-true _ _ _ t), sym (cond-true _ _ _ t ∙ met_there names x (omega arith)))

  pub new_names : length x ≤ 32 → (n : ℕ) → n ≡ number names x → length names ≤ n → n < limit → (Ok n ≡ number_or_none limit names x) × (names ++ x ∷ [] ≡ names_after limit names x)
  new_names h n e l m =
      let t = taken_short h (omega arith) in
      (ap Ok e ∙ sym (cond-true _ _ _ t), sym (cond-true _ _ _ t ∙ met_new names x (omega arith)))

pub named : (names : List (List ℕ)) (k : ℕ) → k < length names → Some (get_or names k []) ≡ name_at names k
named [] k h = absurd (omega arith)
named (x ∷ xs) zero h = refl
named (x ∷ xs) (suc k) h = named xs k (omega arith)

pub unnamed : (names : List (List ℕ)) (k : ℕ) → length names ≤ k → None ≡ name_at names k
unnamed [] k h = refl
unnamed (x ∷ xs) zero h = absurd (omega arith)
unnamed (x ∷ xs) (suc k) h = unnamed xs k (omega arith)
