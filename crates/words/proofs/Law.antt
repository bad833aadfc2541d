-- A text is read as its words, and in no other way.
use Rattle.std.proofs.Common.{◌≡◌, ℕ, suc, ◌+◌, ◌<◌, ◌≤◌, Bool, true, false, cond, not, ◌&&◌, eqb, leb, List, [], ◌∷◌, ◌++◌, length, get_or, take, drop, Some, sym, refl, ap, ◌∙◌, subst, append_assoc, one-add, arith, length-append, take-append-drop, length-take-le}
use Rattle.std.proofs.lemmas.Bool.{eqb-true, leb-true, leb-false, le-leb, lt-leb, and_from, cond-true, cond-false}
use lib.Seq.{take-append_seam}
use Rattle.std.proofs.lemmas.List.Sums.{prefix_len-le-length}
use Rattle.std.specs.List.{prefix_len}
use Rattle.classes.proofs.Marks.{byte_of_mark}
use Rattle.classes.specs.declared.Mark.{Mark}
use Rattle.classes.specs.declared.Mark.TheVariants as marks
use Rattle.classes.specs.declared.ByteClass.{ByteClass}
use Rattle.classes.specs.declared.ByteClass.TheVariants as class
use Rattle.classes.specs.Classes.{control, class_of, mark_byte}
use Rattle.words.specs.declared.faults.WordRefusal.{WordRefusal}
use Rattle.words.specs.declared.faults.WordRefusal.TheVariants.{OpenQuote, NameLength}
use Rattle.words.specs.Words.{Sign, Token, Reading, read, refused, blank_byte, of_name, name_limit, is_blank, is_name, gap, bare, quoted, marked, starting, word_from}
use Rattle.words.specs.Texts.{Each, Gap, Ends, Spells, Faulty, line_feed, sole}

-- Runs of bytes that pass a test.
module _ (p : ℕ → Bool) where
  pub run_passes : (bs : List ℕ) → Each p true (take (prefix_len p bs) bs)
  run_passes [] = Each.none
  run_passes (x ∷ bs) = go (p x) refl (run_passes bs)
    where
      go : (b : Bool) → p x ≡ b → Each p true (take (prefix_len p bs) bs) → Each p true (take (cond b (1 + prefix_len p bs) 0) (x ∷ bs))
      go true e h = rw one-add (Each.also e h)
      go false e h = Each.none

  pub run_ends : (bs : List ℕ) → Ends p (drop (prefix_len p bs) bs)
  run_ends [] = tt
  run_ends (x ∷ bs) = go (p x) refl (run_ends bs)
    where
      go : (b : Bool) → p x ≡ b → Ends p (drop (prefix_len p bs) bs) → Ends p (drop (cond b (1 + prefix_len p bs) 0) (x ∷ bs))
      go true e h = rw one-add h
      go false e h = e

  pub run_is : (xs rest : List ℕ) → Each p true xs → Ends p rest → prefix_len p (xs ++ rest) ≡ length xs
  run_is [] [] h e = refl
  run_is [] (x ∷ rest) h e = rw e
  run_is (x ∷ xs) rest (Each.also t h) e = rw (t, one-add, run_is xs rest h e)

-- What a gap is followed by: the text's end, or a byte that is no blank and begins no comment.
abbrev pub Starts : List ℕ → Type 0
Starts [] = Unit {0}
Starts (x ∷ xs) = (eqb x 37 ≡ false) × (blank_byte x ≡ false)

-- A scan within a comment passes up to a line feed and the gap behind it, or all there is.
data Commented (bs : List ℕ) (n : ℕ) : Type 0 where
  closed : (c g : List ℕ) → Each line_feed false c → Gap g (drop n bs) → take n bs ≡ c ++ (10 ∷ g) → Commented bs n
  cut : Each line_feed false (take n bs) → drop n bs ≡ [] → Commented bs n

abbrev pub Passed : List ℕ → ℕ → Type 0
Passed bs n = Gap (take n bs) (drop n bs)

in_comment : (x : ℕ) (bs : List ℕ) (b : Bool) → eqb x 10 ≡ b → Commented bs (gap true bs) → Passed bs (gap false bs)
    → Commented (x ∷ bs) (1 + gap (not b) bs)
in_comment x bs true e h g =
    rw one-add (Commented.closed [] (take (gap false bs) bs) Each.none g (ap (λ y. y ∷ take (gap false bs) bs) (eqb-true x 10 e)))
in_comment x bs false e (Commented.closed c g f k s) h =
    rw one-add (Commented.closed (x ∷ c) g (Each.also e f) k (ap (λ l. x ∷ l) s))
in_comment x bs false e (Commented.cut f d) h = rw one-add (Commented.cut (Each.also e f) d)

commented : (bs : List ℕ) (n : ℕ) → Commented bs n → Passed (37 ∷ bs) (suc n)
commented bs n (Commented.closed c g f k s) =
    let P : List ℕ → Type 0 = λ l. Gap (37 ∷ l) (drop n bs) in subst P (sym s) (Gap.comment f k)
commented bs n (Commented.cut f d) =
    let P : List ℕ → Type 0 = λ l. Gap (37 ∷ take n bs) l in subst P (sym d) (Gap.last_comment f)

in_gap : (x : ℕ) (bs : List ℕ) (p q : Bool) → eqb x 37 ≡ p → blank_byte x ≡ q → Commented bs (gap true bs) → Passed bs (gap false bs)
    → Passed (x ∷ bs) (cond p (1 + gap true bs) (cond q (1 + gap false bs) 0))
in_gap x bs true q e f h g =
    let P : ℕ → Type 0 = λ y. Passed (y ∷ bs) (1 + gap true bs) in
    subst P (sym (eqb-true x 37 e)) (rw one-add (commented bs (gap true bs) h))
in_gap x bs false true e f h g = rw one-add (Gap.blank f g)
in_gap x bs false false e f h g = Gap.none

mutual
  pub gap_passes : (bs : List ℕ) → Passed bs (gap false bs)
  gap_passes [] = Gap.none
  gap_passes (x ∷ bs) = in_gap x bs (eqb x 37) (blank_byte x) refl refl (comment_passes bs) (gap_passes bs)

  comment_passes : (bs : List ℕ) → Commented bs (gap true bs)
  comment_passes [] = Commented.cut Each.none refl
  comment_passes (x ∷ bs) = in_comment x bs (eqb x 10) refl (comment_passes bs) (gap_passes bs)

-- It stops where a gap ends.
behind_gap : (x : ℕ) (bs : List ℕ) (p q : Bool) → eqb x 37 ≡ p → blank_byte x ≡ q → ((c : Bool) → Starts (drop (gap c bs) bs))
    → Starts (drop (cond p (1 + gap true bs) (cond q (1 + gap false bs) 0)) (x ∷ bs))
behind_gap x bs true q e f h = rw one-add (h true)
behind_gap x bs false true e f h = rw one-add (h false)
behind_gap x bs false false e f h = (e, f)

pub gap_stops : (bs : List ℕ) (c : Bool) → Starts (drop (gap c bs) bs)
gap_stops [] false = tt
gap_stops [] true = tt
gap_stops (x ∷ bs) false = behind_gap x bs (eqb x 37) (blank_byte x) refl refl (gap_stops bs)
gap_stops (x ∷ bs) true = rw one-add (gap_stops bs (not (eqb x 10)))

-- And every gap is passed whole.
comment_to : (c ys : List ℕ) → Each line_feed false c → gap true (c ++ (10 ∷ ys)) ≡ length c + suc (gap false ys)
comment_to [] ys h = omega (arith, one-add (gap false ys))
comment_to (x ∷ c) ys (Each.also e h) = rw e (let k = comment_to c ys h in omega arith)

comment_all : (c : List ℕ) → Each line_feed false c → gap true c ≡ length c
comment_all [] h = refl
comment_all (x ∷ c) (Each.also e h) = rw e (let k = comment_all c h in omega arith)

no_comment : (x : ℕ) → blank_byte x ≡ true → eqb x 37 ≡ false
no_comment x h = go (eqb x 37) refl
  where
    go : (b : Bool) → eqb x 37 ≡ b → b ≡ false
    go false e = refl
    go true e =
        let P : ℕ → Type 0 = λ y. blank_byte y ≡ true in
        let k : ◌≡◌ {A = Bool} false true = subst P (eqb-true x 37 e) h in sym k

pub append_nil : (xs : List ℕ) → xs ++ [] ≡ xs
append_nil [] = refl
append_nil (x ∷ xs) = ap (λ l. x ∷ l) (append_nil xs)

no_gap : (rest : List ℕ) → Starts rest → gap false rest ≡ 0
no_gap [] s = refl
no_gap (x ∷ rest) s = rw (s.1, s.0)

pub gap_is : (g rest : List ℕ) → Gap g rest → Starts rest → gap false (g ++ rest) ≡ length g
gap_is g rest Gap.none s = no_gap rest s
gap_is g rest (Gap.blank {x} {xs} e h) s =
    let k : gap false (xs ++ rest) ≡ length xs = gap_is xs rest h s in rw (e, no_comment x e) (omega (arith, k))
gap_is g rest (Gap.comment {c} {xs} e h) s =
    let k : gap false (xs ++ rest) ≡ length xs = gap_is xs rest h s in
    let m : gap true (c ++ (10 ∷ (xs ++ rest))) ≡ length c + suc (gap false (xs ++ rest)) = comment_to c (xs ++ rest) e in
    rw (append_assoc c (10 ∷ xs) rest, length-append c (10 ∷ xs)) (omega (arith, k, m))
gap_is g rest (Gap.last_comment {c} e) s = rw (append_nil c) (let k = comment_all c e in omega arith)

-- The word that begins at a byte, as its bytes have it.
pub record Spelt (s : ℕ) (bs : List ℕ) (t : Token) (e : ℕ) : Type 0 where
  pub bytes : List ℕ
  pub rest : List ℕ
  pub whole : bs ≡ bytes ++ rest
  pub behind : e ≡ s + length bytes
  pub spells : Spells t bytes rest

abbrev pub Says : ℕ → List ℕ → Reading → Type 0
Says s bs (read s' t e) = (s' ≡ s) × Spelt s bs t e
Says s bs (refused r s') = (s' ≡ s) × Faulty r bs

sole_says : (s : ℕ) (bs : List ℕ) (m : Mark) (t : Sign) → sole m ≡ Some t → Says s (mark_byte m ∷ bs) (read s (Token.sign t) (s + 1))
sole_says s bs m t e =
    (refl, record { bytes = mark_byte m ∷ []; rest = bs; whole = refl; behind = refl; spells = Spells.mark m e })

equals_says : (s : ℕ) (bs : List ℕ) → Says s (61 ∷ bs) (marked s marks.Equals bs)
equals_says s [] = (refl, record { bytes = 61 ∷ []; rest = []; whole = refl; behind = refl; spells = Spells.single_equals [] tt })
equals_says s (x ∷ bs) = go (eqb x 61) refl
  where
    go : (b : Bool) → eqb x 61 ≡ b → Says s (61 ∷ x ∷ bs) (cond b (read s (Token.sign Sign.equals) (s + 2)) (read s (Token.sign Sign.stray) (s + 1)))
    go true e =
        let P : ℕ → Type 0 = λ y. Says s (61 ∷ y ∷ bs) (read s (Token.sign Sign.equals) (s + 2)) in
        subst P (sym (eqb-true x 61 e)) (refl, record { bytes = 61 ∷ 61 ∷ []; rest = bs; whole = refl; behind = refl; spells = Spells.equals })
    go false e = (refl, record { bytes = 61 ∷ []; rest = x ∷ bs; whole = refl; behind = refl; spells = Spells.single_equals (x ∷ bs) e })

-- what cuts a quoted run off is a control byte
control_from : (a b : Bool) → (not a && not b) ≡ false → b ≡ false → not a ≡ false
control_from true b e f = refl
control_from false true e f = let z : ◌≡◌ {A = ℕ} 0 1 = cc in absurd (omega arith)
control_from false false e f = let z : ◌≡◌ {A = ℕ} 0 1 = cc in absurd (omega arith)

quoted_name_says : (s : ℕ) (xs rest : List ℕ) → Each (of_name true) true xs
    → Says s (39 ∷ (xs ++ (39 ∷ rest))) (cond (leb 1 (length xs) && leb (length xs) name_limit) (read s (Token.atom xs) (s + 1 + length xs + 1)) (refused NameLength s))
quoted_name_says s [] rest h = (refl, Faulty.empty_quoted)
quoted_name_says s (x ∷ xs) rest h = go (leb (length (x ∷ xs)) name_limit) refl
  where
    go : (b : Bool) → leb (length (x ∷ xs)) name_limit ≡ b
        → Says s (39 ∷ ((x ∷ xs) ++ (39 ∷ rest))) (cond (leb 1 (length (x ∷ xs)) && b) (read s (Token.atom (x ∷ xs)) (s + 1 + length (x ∷ xs) + 1)) (refused NameLength s))
    go true e =
        let few = leb-true (length (x ∷ xs)) name_limit e in
        rw (le-leb 1 (length (x ∷ xs)) (omega arith)) (
          refl,
          record {
            bytes = 39 ∷ ((x ∷ xs) ++ (39 ∷ []));
            rest = rest;
            whole = ap (λ l. 39 ∷ l) (sym (append_assoc (x ∷ xs) (39 ∷ []) rest));
            behind = let k = length-append xs (39 ∷ []) in omega arith;
            spells = Spells.quoted h (omega arith) few;
          },
        )
    go false e =
        let many = leb-false (length (x ∷ xs)) name_limit e in
        rw (le-leb 1 (length (x ∷ xs)) (omega arith)) (refl, Faulty.long_quoted rest h many)

at_seam : (xs d : List ℕ) → get_or (xs ++ d) (length xs) 0 ≡ get_or d 0 0
at_seam [] d = refl
at_seam (x ∷ xs) d = at_seam xs d

-- a quoted run, up to where it ends
quoted_split : (s : ℕ) (xs d : List ℕ) → Each (of_name true) true xs → Ends (of_name true) d
    → Says s (39 ∷ (xs ++ d)) (quoted Token.atom s (xs ++ d) (length xs))
quoted_split s xs [] h e = rw (at_seam xs []) (refl, Faulty.open_quote [] h tt)
quoted_split s xs (y ∷ ys) h e = rw (at_seam xs (y ∷ ys), take-append_seam xs (y ∷ ys)) (go (eqb y 39) refl)
  where
    go : (b : Bool) → eqb y 39 ≡ b
        → Says s (39 ∷ (xs ++ (y ∷ ys))) (cond b (cond (leb 1 (length xs) && leb (length xs) name_limit) (read s (Token.atom xs) (s + 1 + length xs + 1)) (refused NameLength s)) (refused OpenQuote s))
    go true f =
        let P : ℕ → Type 0 = λ y. Says s (39 ∷ (xs ++ (y ∷ ys))) (cond (leb 1 (length xs) && leb (length xs) name_limit) (read s (Token.atom xs) (s + 1 + length xs + 1)) (refused NameLength s)) in
        subst P (sym (eqb-true y 39 f)) (quoted_name_says s xs ys h)
    go false f = (refl, Faulty.open_quote (y ∷ ys) h (control_from (control y) (eqb y 39) e f))

-- a name up to where it ends
bare_split : (s b : ℕ) (xs d : List ℕ) (f : List ℕ → Token)
    → ((xs rest : List ℕ) → Each (of_name false) true xs → length (b ∷ xs) ≤ name_limit → Ends (of_name false) rest → Spells (f (b ∷ xs)) (b ∷ xs) rest)
    → of_name false b ≡ true → Each (of_name false) true xs → Ends (of_name false) d → Says s (b ∷ (xs ++ d)) (bare f s (b ∷ (xs ++ d)) (length (b ∷ xs)))
bare_split s b xs d f spells k h e = rw (take-append_seam xs d) (go (leb (length (b ∷ xs)) name_limit) refl)
  where
    go : (t : Bool) → leb (length (b ∷ xs)) name_limit ≡ t
        → Says s (b ∷ (xs ++ d)) (cond t (read s (f (b ∷ xs)) (s + length (b ∷ xs))) (refused NameLength s))
    go true t =
        (refl, record { bytes = b ∷ xs; rest = d; whole = refl; behind = refl; spells = spells xs d h (leb-true (length (b ∷ xs)) name_limit t) e })
    go false t = (refl, Faulty.long_name d (Each.also k h) (leb-false (length (b ∷ xs)) name_limit t) e)

module _ (p : ℕ → Bool) (bs : List ℕ) where
  run_length : length (take (prefix_len p bs) bs) ≡ prefix_len p bs
  run_length = length-take-le (prefix_len p bs) bs (prefix_len-le-length p bs)

  run_whole : take (prefix_len p bs) bs ++ drop (prefix_len p bs) bs ≡ bs
  run_whole = take-append-drop (prefix_len p bs) bs

quoted_says : (s : ℕ) (bs : List ℕ) → Says s (39 ∷ bs) (quoted Token.atom s bs (prefix_len (of_name true) bs))
quoted_says s bs =
    let P : List ℕ → Type 0 = λ l. Says s (39 ∷ l) (quoted Token.atom s l (prefix_len (of_name true) bs)) in
    let Q : ℕ → Type 0 = λ n. Says s (39 ∷ (take (prefix_len (of_name true) bs) bs ++ drop (prefix_len (of_name true) bs) bs)) (quoted Token.atom s (take (prefix_len (of_name true) bs) bs ++ drop (prefix_len (of_name true) bs) bs) n) in
    subst P (run_whole (of_name true) bs) (subst Q (run_length (of_name true) bs)
    (quoted_split s (take (prefix_len (of_name true) bs) bs) (drop (prefix_len (of_name true) bs) bs) (run_passes (of_name true) bs) (run_ends (of_name true) bs)))

bare_says : (s b : ℕ) (bs : List ℕ) (f : List ℕ → Token)
    → ((xs rest : List ℕ) → Each (of_name false) true xs → length (b ∷ xs) ≤ name_limit → Ends (of_name false) rest → Spells (f (b ∷ xs)) (b ∷ xs) rest)
    → of_name false b ≡ true → Says s (b ∷ bs) (bare f s (b ∷ bs) (prefix_len (of_name false) (b ∷ bs)))
bare_says s b bs f spells h =
    let m : ℕ = prefix_len (of_name false) bs in
    let P : List ℕ → Type 0 = λ l. Says s (b ∷ l) (bare f s (b ∷ l) (prefix_len (of_name false) (b ∷ bs))) in
    let Q : ℕ → Type 0 = λ n. Says s (b ∷ (take m bs ++ drop m bs)) (bare f s (b ∷ (take m bs ++ drop m bs)) n) in
    let n : length (b ∷ take m bs) ≡ prefix_len (of_name false) (b ∷ bs) =
    ap suc (run_length (of_name false) bs) ∙ sym (one-add m) ∙ sym (cond-true (of_name false b) (1 + m) 0 h) in
    subst P (run_whole (of_name false) bs) (subst Q n
    (bare_split s b (take m bs) (drop m bs) f spells h (run_passes (of_name false) bs) (run_ends (of_name false) bs)))

mark_says : (s : ℕ) (bs : List ℕ) (m : Mark) → Starts (mark_byte m ∷ bs) → Says s (mark_byte m ∷ bs) (marked s m bs)
mark_says s bs marks.Less h = sole_says s bs marks.Less _ refl
mark_says s bs marks.Greater h = sole_says s bs marks.Greater _ refl
mark_says s bs marks.Colon h = sole_says s bs marks.Colon _ refl
mark_says s bs marks.Equals h = equals_says s bs
mark_says s bs marks.Stop h = sole_says s bs marks.Stop _ refl
mark_says s bs marks.Quote h = sole_says s bs marks.Quote _ refl
mark_says s bs marks.Tick h = quoted_says s bs
mark_says s bs marks.Percent h = let k = h.0 in let z : ◌≡◌ {A = ℕ} 0 1 = cc in absurd (omega arith)
mark_says s bs marks.Open h = sole_says s bs marks.Open _ refl
mark_says s bs marks.Close h = sole_says s bs marks.Close _ refl
mark_says s bs marks.Hash h = sole_says s bs marks.Hash _ refl
mark_says s bs marks.Dollar h = sole_says s bs marks.Dollar _ refl
mark_says s bs marks.LeftBrace h = sole_says s bs marks.LeftBrace _ refl
mark_says s bs marks.RightBrace h = sole_says s bs marks.RightBrace _ refl

pub word_says : (s b : ℕ) (bs : List ℕ) → Starts (b ∷ bs) → Says s (b ∷ bs) (word_from s (b ∷ bs))
word_says s b bs h = go (class_of b) refl
  where
    go : (k : ByteClass) → class_of b ≡ k → Says s (b ∷ bs) (starting s k b bs)
    go class.Blank e = let x = ap is_blank e in let y = h.1 in let z : ◌≡◌ {A = ℕ} 0 1 = cc in absurd (omega arith)
    go class.Bad e = (refl, Faulty.bad_byte e)
    go (class.Mark m) e =
        let k = byte_of_mark b m e in
        let P : ℕ → Type 0 = λ y. Starts (y ∷ bs) → Says s (y ∷ bs) (marked s m bs) in subst P (sym k) (mark_says s bs m) h
    go class.Capital e = bare_says s b bs Token.node (λ xs rest. Spells.node rest e) (ap is_name e)
    go class.Plain e = bare_says s b bs Token.atom (λ xs rest. Spells.atom rest e) (ap is_name e)

-- Bytes that spell a word, or begin a fault, begin no gap.
solid : (x : ℕ) (bs : List ℕ) (k : ByteClass) → class_of x ≡ k → is_blank k ≡ false → (k ≡ class.Mark marks.Percent → ⊥) → Starts (x ∷ bs)
solid x bs k e b n = (go (eqb x 37) refl, ap is_blank e ∙ b)
  where
    go : (t : Bool) → eqb x 37 ≡ t → t ≡ false
    go false t = refl
    go true t = absurd (n (sym e ∙ ap class_of (eqb-true x 37 t)))

other_class : {k l : ByteClass} → k ≡ l → (k ≡ l → ◌≡◌ {A = ℕ} 0 1) → ⊥
other_class e f = let z = f e in omega arith

sole_starts : (m : Mark) (t : Sign) (bs : List ℕ) → sole m ≡ Some t → Starts (mark_byte m ∷ bs)
sole_starts marks.Less t bs e = (refl, refl)
sole_starts marks.Greater t bs e = (refl, refl)
sole_starts marks.Colon t bs e = (refl, refl)
sole_starts marks.Equals t bs e = (refl, refl)
sole_starts marks.Stop t bs e = (refl, refl)
sole_starts marks.Quote t bs e = (refl, refl)
sole_starts marks.Tick t bs e = (refl, refl)
sole_starts marks.Percent t bs e = let z : ◌≡◌ {A = ℕ} 0 1 = cc in absurd (omega arith)
sole_starts marks.Open t bs e = (refl, refl)
sole_starts marks.Close t bs e = (refl, refl)
sole_starts marks.Hash t bs e = (refl, refl)
sole_starts marks.Dollar t bs e = (refl, refl)
sole_starts marks.LeftBrace t bs e = (refl, refl)
sole_starts marks.RightBrace t bs e = (refl, refl)

named_starts : (x : ℕ) (bs : List ℕ) → of_name false x ≡ true → Starts (x ∷ bs)
named_starts x bs h = go (class_of x) refl
  where
    go : (k : ByteClass) → class_of x ≡ k → Starts (x ∷ bs)
    go class.Blank e = let y = ap is_name e in let z : ◌≡◌ {A = ℕ} 0 1 = cc in absurd (omega arith)
    go class.Bad e = let y = ap is_name e in let z : ◌≡◌ {A = ℕ} 0 1 = cc in absurd (omega arith)
    go (class.Mark m) e = let y = ap is_name e in let z : ◌≡◌ {A = ℕ} 0 1 = cc in absurd (omega arith)
    go class.Capital e = solid x bs class.Capital e refl (λ q. other_class q (λ r. cc))
    go class.Plain e = solid x bs class.Plain e refl (λ q. other_class q (λ r. cc))

pub spelt_starts : {t : Token} (w rest : List ℕ) → Spells t w rest → Starts (w ++ rest)
spelt_starts w rest (Spells.mark {t} m e) = sole_starts m t rest e
spelt_starts w rest Spells.equals = (refl, refl)
spelt_starts w rest (Spells.single_equals r e) = (refl, refl)
spelt_starts w rest (Spells.node {x} {xs} r e h k d) = named_starts x (xs ++ rest) (ap is_name e)
spelt_starts w rest (Spells.atom {x} {xs} r e h k d) = named_starts x (xs ++ rest) (ap is_name e)
spelt_starts w rest (Spells.quoted h k l) = (refl, refl)

pub faulty_starts : {r : WordRefusal} (bs : List ℕ) → Faulty r bs → Starts bs
faulty_starts bs (Faulty.bad_byte {x} {rest} e) = solid x rest class.Bad e refl (λ q. other_class q (λ r. cc))
faulty_starts bs (Faulty.open_quote rest h e) = (refl, refl)
faulty_starts bs (Faulty.long_name {x} {xs} rest (Each.also h k) l e) = named_starts x (xs ++ rest) h
faulty_starts bs (Faulty.long_quoted rest h l) = (refl, refl)
faulty_starts bs Faulty.empty_quoted = (refl, refl)

-- The word that bytes spell is the one that is read there.
sole_is : (s : ℕ) (m : Mark) (t : Sign) (rest : List ℕ) → sole m ≡ Some t → word_from s (mark_byte m ∷ rest) ≡ read s (Token.sign t) (s + 1)
sole_is s marks.Less t rest e = cc
sole_is s marks.Greater t rest e = cc
sole_is s marks.Colon t rest e = cc
sole_is s marks.Equals t rest e = cc
sole_is s marks.Stop t rest e = cc
sole_is s marks.Quote t rest e = cc
sole_is s marks.Tick t rest e = cc
sole_is s marks.Percent t rest e = cc
sole_is s marks.Open t rest e = cc
sole_is s marks.Close t rest e = cc
sole_is s marks.Hash t rest e = cc
sole_is s marks.Dollar t rest e = cc
sole_is s marks.LeftBrace t rest e = cc
sole_is s marks.RightBrace t rest e = cc

single_is : (s : ℕ) (rest : List ℕ) → Ends (λ x. eqb x 61) rest → word_from s (61 ∷ rest) ≡ read s (Token.sign Sign.stray) (s + 1)
single_is s [] e = refl
single_is s (x ∷ rest) e = rw e

bare_is : (s x : ℕ) (xs rest : List ℕ) (f : List ℕ → Token) → of_name false x ≡ true → Each (of_name false) true xs → Ends (of_name false) rest
    → bare f s (x ∷ (xs ++ rest)) (prefix_len (of_name false) (x ∷ (xs ++ rest)))
    ≡ cond (leb (length (x ∷ xs)) name_limit) (read s (f (x ∷ xs)) (s + length (x ∷ xs))) (refused NameLength s)
bare_is s x xs rest f k h e =
    ap (λ n. bare f s (x ∷ (xs ++ rest)) n) (run_is (of_name false) (x ∷ xs) rest (Each.also k h) e)
    ∙ ap (λ l. cond (leb (length (x ∷ xs)) name_limit) (read s (f (x ∷ l)) (s + length (x ∷ xs))) (refused NameLength s)) (take-append_seam xs rest)

quoted_is : (s : ℕ) (xs rest : List ℕ) → Each (of_name true) true xs
    → word_from s (39 ∷ (xs ++ (39 ∷ rest)))
    ≡ cond (leb 1 (length xs) && leb (length xs) name_limit) (read s (Token.atom xs) (s + 1 + length xs + 1)) (refused NameLength s)
quoted_is s xs rest h =
    ap (λ n. quoted Token.atom s (xs ++ (39 ∷ rest)) n) (run_is (of_name true) xs (39 ∷ rest) h refl)
    ∙ rw (at_seam xs (39 ∷ rest), take-append_seam xs (39 ∷ rest))

quoted_fits : (s : ℕ) (xs : List ℕ) → 1 ≤ length xs → length xs ≤ name_limit
    → cond (leb 1 (length xs) && leb (length xs) name_limit) (read s (Token.atom xs) (s + 1 + length xs + 1)) (refused NameLength s)
    ≡ read s (Token.atom xs) (s + length (39 ∷ (xs ++ (39 ∷ []))))
quoted_fits s xs k l =
    let n : s + 1 + length xs + 1 ≡ s + length (39 ∷ (xs ++ (39 ∷ []))) = let q = length-append xs (39 ∷ []) in omega arith in
    cond-true _ _ _ (and_from _ _ (le-leb 1 (length xs) k) (le-leb (length xs) name_limit l)) ∙ ap (read s (Token.atom xs)) n

named_is : (s : ℕ) {x : ℕ} {xs : List ℕ} (rest : List ℕ) (c : ByteClass) (f : List ℕ → Token) → class_of x ≡ c → is_name c ≡ true
    → starting s c x (xs ++ rest) ≡ bare f s (x ∷ (xs ++ rest)) (prefix_len (of_name false) (x ∷ (xs ++ rest)))
    → Each (of_name false) true xs → length (x ∷ xs) ≤ name_limit → Ends (of_name false) rest
    → word_from s (x ∷ (xs ++ rest)) ≡ read s (f (x ∷ xs)) (s + length (x ∷ xs))
named_is s {x} {xs} rest c f e n b h k d =
    ap (λ c. starting s c x (xs ++ rest)) e ∙ b ∙ bare_is s x xs rest f (ap is_name e ∙ n) h d
    ∙ cond-true _ _ _ (le-leb (length (x ∷ xs)) name_limit k)

pub word_is : (s : ℕ) {t : Token} (w rest : List ℕ) → Spells t w rest → word_from s (w ++ rest) ≡ read s t (s + length w)
word_is s w rest (Spells.mark {t} m e) = sole_is s m t rest e
word_is s w rest Spells.equals = refl
word_is s w rest (Spells.single_equals r e) = single_is s rest e
word_is s w rest (Spells.node r e h k d) = named_is s rest class.Capital Token.node e refl refl h k d
word_is s w rest (Spells.atom r e h k d) = named_is s rest class.Plain Token.atom e refl refl h k d
word_is s w rest (Spells.quoted {xs} h k l) =
    ap (λ l. word_from s (39 ∷ l)) (append_assoc xs (39 ∷ []) rest) ∙ quoted_is s xs rest h ∙ quoted_fits s xs k l

-- a run that a control byte cuts off has no closing quote there
cut_off : (rest : List ℕ) → Ends (λ x. not (control x)) rest → Ends (of_name true) rest × (eqb (get_or rest 0 0) 39 ≡ false)
cut_off [] e = (tt, refl)
cut_off (x ∷ rest) e = (rw e, go (eqb x 39) refl)
  where
    go : (t : Bool) → eqb x 39 ≡ t → t ≡ false
    go false t = refl
    go true t = ap (λ y. not (control y)) (sym (eqb-true x 39 t)) ∙ e

open_is : (s : ℕ) (xs rest : List ℕ) → Each (of_name true) true xs → Ends (λ x. not (control x)) rest → word_from s (39 ∷ (xs ++ rest)) ≡ refused OpenQuote s
open_is s xs rest h e =
    let c = cut_off rest e in
    ap (λ n. quoted Token.atom s (xs ++ rest) n) (run_is (of_name true) xs rest h c.0) ∙ cond-false _ _ _ (ap (λ y. eqb y 39) (at_seam xs rest) ∙ c.1)

long_is : (s x : ℕ) (xs rest : List ℕ) → of_name false x ≡ true → Each (of_name false) true xs → name_limit < length (x ∷ xs) → Ends (of_name false) rest
    → word_from s (x ∷ (xs ++ rest)) ≡ refused NameLength s
long_is s x xs rest h k l e = go (class_of x) refl
  where
    bare_long : (f : List ℕ → Token) → bare f s (x ∷ (xs ++ rest)) (prefix_len (of_name false) (x ∷ (xs ++ rest))) ≡ refused NameLength s
    bare_long f = bare_is s x xs rest f h k e ∙ cond-false _ _ _ (lt-leb (length (x ∷ xs)) name_limit l)

    go : (c : ByteClass) → class_of x ≡ c → starting s c x (xs ++ rest) ≡ refused NameLength s
    go class.Blank q = let y = ap is_name q in let z : ◌≡◌ {A = ℕ} 0 1 = cc in absurd (omega arith)
    go class.Bad q = let y = ap is_name q in let z : ◌≡◌ {A = ℕ} 0 1 = cc in absurd (omega arith)
    go (class.Mark m) q = let y = ap is_name q in let z : ◌≡◌ {A = ℕ} 0 1 = cc in absurd (omega arith)
    go class.Capital q = bare_long Token.node
    go class.Plain q = bare_long Token.atom

pub fault_is : (s : ℕ) {r : WordRefusal} (bs : List ℕ) → Faulty r bs → word_from s bs ≡ refused r s
fault_is s bs (Faulty.bad_byte {x} {rest} e) = ap (λ c. starting s c x rest) e
fault_is s bs (Faulty.open_quote {xs} rest h e) = open_is s xs rest h e
fault_is s bs (Faulty.long_name {x} {xs} rest (Each.also h k) l e) = long_is s x xs rest h k l e
fault_is s bs (Faulty.long_quoted {xs} rest h l) =
    quoted_is s xs rest h ∙ rw (le-leb 1 (length xs) (omega arith), lt-leb (length xs) name_limit l)
fault_is s bs Faulty.empty_quoted = refl
