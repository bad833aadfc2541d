-- The words of a whole text: it is read as they say, and in no other way.
use Rattle.std.proofs.Common.{◌≡◌, ℕ, zero, suc, ◌+◌, ◌-◌, ◌<◌, ◌≤◌, Bool, true, false, cond, not, eqb, List, [], ◌∷◌, ◌++◌, length, take, drop, sym, refl, ap, ◌∙◌, subst, arith, length-append, length-drop, take-append-drop, length-take-le, drop-drop}
use lib.Seq.{drop-append_seam}
use Rattle.words.specs.Words.{Token, Reading, read, refused, blank_byte, name_limit, gap, word_from, word_at}
use Rattle.words.specs.Texts.{Gap, Spells, Words, end_at, fault_at, onward, continued, words_within, words_from, words_of, word_count, Reads, WordsAreExact}
use Rattle.words.proofs.Law.{Starts, gap_passes, gap_stops, gap_is, Says, word_says, spelt_starts, faulty_starts, word_is, fault_is, append_nil}

-- A word that bytes spell is not the text's end, and has a byte.
pub spelt_some : {t : Token} {w rest : List ℕ} → Spells t w rest → (t ≡ Token.text_end → ⊥) × (1 ≤ length w)
spelt_some (Spells.mark m e) = (λ q. let z : ◌≡◌ {A = ℕ} 0 1 = cc in omega arith, omega arith)
spelt_some Spells.equals = (λ q. let z : ◌≡◌ {A = ℕ} 0 1 = cc in omega arith, omega arith)
spelt_some (Spells.single_equals r e) = (λ q. let z : ◌≡◌ {A = ℕ} 0 1 = cc in omega arith, omega arith)
spelt_some (Spells.node r e h k d) = (λ q. let z : ◌≡◌ {A = ℕ} 0 1 = cc in omega arith, omega arith)
spelt_some (Spells.atom r e h k d) = (λ q. let z : ◌≡◌ {A = ℕ} 0 1 = cc in omega arith, omega arith)
spelt_some (Spells.quoted h k l) = (λ q. let z : ◌≡◌ {A = ℕ} 0 1 = cc in omega arith, omega arith)

pub goes_on : (s e : ℕ) (t : Token) (f : ℕ → Words) → (t ≡ Token.text_end → ⊥) → onward s t e f ≡ Words.word s t e (f e)
goes_on s e (Token.sign x) f h = refl
goes_on s e (Token.node x) f h = refl
goes_on s e (Token.atom x) f h = refl
goes_on s e Token.text_end f h = absurd (h refl)

-- A text from a place on, of which a gap is split off in front.
module _ (at s : ℕ) (g d : List ℕ) (f : ℕ → Words) (place : s ≡ at + length g) (gapped : Gap g d)
    (onwards : (e : ℕ) (w rest : List ℕ) → d ≡ w ++ rest → e ≡ s + length w → 1 ≤ length w → Reads e rest (f e)) where
  said : (r : Reading) → Says s d r → Reads at (g ++ d) (continued r f)
  said (read s' t e) h =
      let sp = h.1 in
      let some = spelt_some sp.spells in
      let P : Words → Type 0 = λ ws. Reads at (g ++ d) ws in
      let Q : List ℕ → Type 0 = λ l. Gap g l in
      subst P (sym (goes_on s' e t f some.0)) (Reads.word (ap (λ l. g ++ l) sp.whole) (h.0 ∙ place) (sp.behind ∙ ap (λ x. x + length sp.bytes) (sym h.0))
      (subst Q sp.whole gapped) sp.spells (onwards e sp.bytes sp.rest sp.whole sp.behind some.1))
  said (refused r s') h =
      let P : ℕ → Type 0 = λ x. Reads at (g ++ d) (fault_at r x) in subst P (sym (h.0 ∙ place)) (Reads.fault refl gapped h.1)

from_gap : (at s : ℕ) (g d : List ℕ) (f : ℕ → Words) → s ≡ at + length g → Gap g d → Starts d
    → ((e : ℕ) (w rest : List ℕ) → d ≡ w ++ rest → e ≡ s + length w → 1 ≤ length w → Reads e rest (f e)) → Reads at (g ++ d) (continued (word_from s d) f)
from_gap at s g [] f place gapped h onwards =
    let P : List ℕ → Type 0 = λ l. Reads at l (end_at s) in
    let Q : ℕ → Type 0 = λ x. Reads at g (end_at x) in subst P (sym (append_nil g)) (subst Q (sym place) (Reads.end gapped))
from_gap at s g (b ∷ d) f place gapped h onwards = said at s g (b ∷ d) f place gapped onwards (word_from s (b ∷ d)) (word_says s b d h)

gap_length : (bs : List ℕ) (c : Bool) → gap c bs ≤ length bs
gap_length [] false = omega arith
gap_length [] true = omega arith
gap_length (x ∷ bs) true = let k = gap_length bs (not (eqb x 10)) in omega arith
gap_length (x ∷ bs) false = go (eqb x 37) (blank_byte x) (gap_length bs true) (gap_length bs false)
  where
    go : (p q : Bool) → gap true bs ≤ length bs → gap false bs ≤ length bs → cond p (1 + gap true bs) (cond q (1 + gap false bs) 0) ≤ suc (length bs)
    go true q h k = omega arith
    go false true h k = omega arith
    go false false h k = omega arith

-- what follows a part of what is left
module _ (text : List ℕ) (at : ℕ) (g d : List ℕ) (whole : drop at text ≡ g ++ d) where
  left_behind : drop (at + length g) text ≡ d
  left_behind = sym (drop-drop (length g) at text) ∙ ap (drop (length g)) whole ∙ drop-append_seam g d

  left_length : length text - at ≡ length g + length d
  left_length = sym (length-drop at text) ∙ ap length whole ∙ length-append g d

-- A text is read as its words say.
module _ (text : List ℕ) (at : ℕ) (f : ℕ → Words)
    (later : (e : ℕ) → at < e → e ≤ length text → Reads e (drop e text) (f e)) where
  ahead : ℕ
  ahead = gap false (drop at text)

  pub reads_next : Reads at (drop at text) (continued (word_at text at) f)
  unfolding ahead
  reads_next =
      let P : List ℕ → Type 0 = λ l. Reads at l (continued (word_at text at) f) in
      let Q : List ℕ → Type 0 = λ l. Reads at (take ahead (drop at text) ++ drop ahead (drop at text)) (continued (word_from (at + ahead) l) f) in
      subst P (take-append-drop ahead (drop at text)) (subst Q (drop-drop ahead at text)
      (from_gap at (at + ahead) (take ahead (drop at text)) (drop ahead (drop at text)) f
      (ap (λ x. at + x) (sym (length-take-le ahead (drop at text) (gap_length (drop at text) false))))
      (gap_passes (drop at text)) (gap_stops (drop at text) false) onwards))
    where
      onwards : (e : ℕ) (w rest : List ℕ) → drop ahead (drop at text) ≡ w ++ rest → e ≡ at + ahead + length w → 1 ≤ length w → Reads e rest (f e)
      onwards e w rest q p some =
          let whole : drop (at + ahead) text ≡ w ++ rest = sym (drop-drop ahead at text) ∙ q in
          let n = left_length text (at + ahead) w rest whole in
          let R : List ℕ → Type 0 = λ l. Reads e l (f e) in
          subst R (ap (λ x. drop x text) p ∙ left_behind text (at + ahead) w rest whole) (later e (omega arith) (omega arith))

pub reads_from : (n : ℕ) (text : List ℕ) (at : ℕ) → at ≤ length text → length text - at < n → Reads at (drop at text) (words_within n text at)
unfolding words_within
reads_from zero text at h k = absurd (omega arith)
reads_from (suc n) text at h k = reads_next text at (words_within n text) (λ e more few. reads_from n text e few (omega arith))

-- It is read in no other way.
next_is : (text : List ℕ) (at : ℕ) (g d : List ℕ) → drop at text ≡ g ++ d → Gap g d → Starts d → word_at text at ≡ word_from (at + length g) d
next_is text at g d whole h s =
    let n : gap false (drop at text) ≡ length g = ap (gap false) whole ∙ gap_is g d h s in
    ap (λ n. word_from (at + n) (drop (at + n) text)) n ∙ ap (word_from (at + length g)) (left_behind text at g d whole)

pub only_so : {at : ℕ} {bytes : List ℕ} {ws : Words} → Reads at bytes ws → (n : ℕ) (text : List ℕ) → drop at text ≡ bytes → at ≤ length text
    → length text - at < n → ws ≡ words_within n text at
unfolding words_within
only_so r zero text whole h k = absurd (omega arith)
only_so (Reads.end {at} {g} gapped) (suc n) text whole h k =
    ap (λ r. continued r (words_within n text)) (sym (next_is text at g [] (whole ∙ sym (append_nil g)) gapped tt))
only_so (Reads.fault {at} {bytes} {g} {rest} {r} e gapped faulty) (suc n) text whole h k =
    ap (λ r. continued r (words_within n text))
    (sym (next_is text at g rest (whole ∙ e) gapped (faulty_starts rest faulty) ∙ fault_is (at + length g) rest faulty))
only_so (Reads.word {at} {s} {e} {bytes} {g} {w} {rest} {t} {more} q p b gapped spells reads) (suc n) text whole h k =
    let some = spelt_some spells in
    let here : word_at text at ≡ read s t e =
    next_is text at g (w ++ rest) (whole ∙ q) gapped (spelt_starts w rest spells) ∙ word_is (at + length g) w rest spells
    ∙ ap (λ x. read x t (x + length w)) (sym p) ∙ ap (read s t) (sym b) in
    let left : drop e text ≡ rest =
    ap (λ x. drop x text) (b ∙ ap (λ x. x + length w) p) ∙ left_behind text (at + length g) w rest (left_behind text at g (w ++ rest) (whole ∙ q)) in
    let long = left_length text at g (w ++ rest) (whole ∙ q) in
    let long_w = length-append w rest in
    let tail : more ≡ words_within n text e = only_so reads n text left (omega arith) (omega arith) in
    ap (Words.word s t e) tail ∙ sym (goes_on s e t (words_within n text) some.0) ∙ ap (λ r. continued r (words_within n text)) (sym here)

-- A word stands behind where it is read from, and within the text.
pub word_bounds : {at s e : ℕ} {t : Token} {bytes : List ℕ} {more : Words} → Reads at bytes (Words.word s t e more) → (at < e) × (e ≤ at + length bytes)
word_bounds (Reads.word {at} {s} {e} {bytes} {g} {w} {rest} q p b gapped spells reads) =
    let some = spelt_some spells in
    let m : length bytes ≡ length g + length (w ++ rest) = ap length q ∙ length-append g (w ++ rest) in
    let l = length-append w rest in (omega arith, omega arith)

-- No more words than bytes.
few_words : {at : ℕ} {bytes : List ℕ} {ws : Words} → Reads at bytes ws → word_count ws ≤ length bytes
few_words (Reads.end gapped) = omega arith
few_words (Reads.fault e gapped faulty) = omega arith
few_words (Reads.word {at} {s} {e} {bytes} {g} {w} {rest} q p b gapped spells reads) =
    let some = spelt_some spells in
    let k = few_words reads in
    let m : length bytes ≡ length g + length (w ++ rest) = ap length q ∙ length-append g (w ++ rest) in
    let l = length-append w rest in omega arith

pub words_are_exact : (text : List ℕ) → WordsAreExact text
words_are_exact text =
    let r : Reads 0 text (words_of text) = reads_from (suc (length text - 0)) text 0 (omega arith) (omega arith) in record {
      reads = r;
      only = λ ws h. only_so h (suc (length text - 0)) text refl (omega arith) (omega arith);
      few = few_words r;
    }

-- All words from a place on are the next one and all from behind it.
pub next_words : (text : List ℕ) (at : ℕ) → at ≤ length text → words_from text at ≡ continued (word_at text at) (words_from text)
next_words text at h =
    let r : Reads at (drop at text) (continued (word_at text at) (words_from text)) =
    reads_next text at (words_from text) (λ e more few. reads_from (suc (length text - e)) text e few (omega arith)) in
    sym (only_so r (suc (length text - at)) text refl h (omega arith))

-- A name is no longer than it may be.
abbrev pub Short : Token → Type 0
Short (Token.sign x) = Unit {0}
Short (Token.node x) = length x ≤ name_limit
Short (Token.atom x) = length x ≤ name_limit
Short Token.text_end = Unit {0}

spelt_short : {t : Token} {w rest : List ℕ} → Spells t w rest → Short t
spelt_short (Spells.mark m e) = tt
spelt_short Spells.equals = tt
spelt_short (Spells.single_equals r e) = tt
spelt_short (Spells.node r e h k d) = k
spelt_short (Spells.atom r e h k d) = k
spelt_short (Spells.quoted h k l) = l

pub word_short : {at s e : ℕ} {t : Token} {bytes : List ℕ} {more : Words} → Reads at bytes (Words.word s t e more) → Short t
word_short (Reads.word q p b gapped spells reads) = spelt_short spells
