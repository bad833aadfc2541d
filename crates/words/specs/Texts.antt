-- The words of a whole text, and the law that they obey.
use Rattle.std.specs.Prelude.{◌≡◌, ℕ, zero, suc, ◌+◌, ◌-◌, ◌<◌, ◌≤◌, Bool, true, false, not, List, [], ◌∷◌, ◌++◌, length, Some, None, Option, ◌==◌, nat_eq}
use Rattle.classes.specs.declared.Mark.{Mark}
use Rattle.classes.specs.declared.Mark.TheVariants as marks
use Rattle.classes.specs.declared.ByteClass.TheVariants as class
use Rattle.classes.specs.Classes.{control, class_of, mark_byte}
use Rattle.words.specs.declared.faults.WordRefusal.{WordRefusal}
use Rattle.words.specs.declared.faults.WordRefusal.TheVariants.{BadByte, OpenQuote, NameLength}
use Rattle.words.specs.Words.{Sign, Token, Reading, read, refused, blank_byte, of_name, name_limit, word_at}

-- The words of a text in order, each with its place and the place behind it, up to the text's end or to the first fault.
pub data Words : Type 0 where
  end_at : ℕ → Words
  fault_at : WordRefusal → ℕ → Words
  word : ℕ → Token → ℕ → Words → Words

abbrev pub onward : ℕ → Token → ℕ → (ℕ → Words) → Words
onward s (Token.sign x) e f = word s (Token.sign x) e (f e)
onward s (Token.node x) e f = word s (Token.node x) e (f e)
onward s (Token.atom x) e f = word s (Token.atom x) e (f e)
onward s Token.text_end e f = end_at s

abbrev pub continued : Reading → (ℕ → Words) → Words
continued (read s t e) f = onward s t e f
continued (refused r s) f = fault_at r s

-- at most so many words
unfoldable pub words_within : ℕ → List ℕ → ℕ → Words
words_within zero text at = end_at at
words_within (suc n) text at = continued (word_at text at) (words_within n text)

-- All words from a place on. There are no more than bytes; with the end, one more is read.
abbrev pub words_from : List ℕ → ℕ → Words
words_from text at = words_within (suc (length text - at)) text at

abbrev pub words_of : List ℕ → Words
words_of text = words_from text 0

abbrev pub word_count : Words → ℕ
word_count (end_at s) = 0
word_count (fault_at r s) = 0
word_count (word s t e more) = suc (word_count more)

-- THE LAW, by what stands in the text.

-- every byte passes a test
pub data Each (test : ℕ → Bool) (b : Bool) : List ℕ → Type 0 where
  none : Each test b []
  also : {x : ℕ} {xs : List ℕ} → test x ≡ b → Each test b xs → Each test b (x ∷ xs)

abbrev pub line_feed : ℕ → Bool
line_feed x = x == 10

-- Only blanks and comments: a comment is a % and what follows up to a line feed, or up to the text's end.
pub data Gap : List ℕ → List ℕ → Type 0 where
  none : {rest : List ℕ} → Gap [] rest
  blank : {x : ℕ} {xs rest : List ℕ} → blank_byte x ≡ true → Gap xs rest → Gap (x ∷ xs) rest
  comment : {c xs rest : List ℕ} → Each line_feed false c → Gap xs rest → Gap (37 ∷ (c ++ (10 ∷ xs))) rest
  last_comment : {c : List ℕ} → Each line_feed false c → Gap (37 ∷ c) []

-- what does not go on with a byte that passes the test
abbrev pub Ends : (ℕ → Bool) → List ℕ → Type 0
Ends test [] = Unit {0}
Ends test (x ∷ xs) = test x ≡ false

-- the word that a mark is by itself
abbrev pub sole : Mark → Option Sign
sole marks.Less = Some Sign.less
sole marks.Greater = Some Sign.greater
sole marks.Colon = Some Sign.colon
sole marks.Equals = None
sole marks.Stop = Some Sign.stop
sole marks.Quote = Some Sign.quote
sole marks.Tick = None
sole marks.Percent = None
sole marks.Open = Some Sign.open_paren
sole marks.Close = Some Sign.close_paren
sole marks.Hash = Some Sign.stray
sole marks.Dollar = Some Sign.stray
sole marks.LeftBrace = Some Sign.stray
sole marks.RightBrace = Some Sign.stray

-- The bytes that spell a word, and what follows them. Names are as long as they can be, and so is ==.
pub data Spells : Token → List ℕ → List ℕ → Type 0 where
  mark : {t : Sign} {rest : List ℕ} (m : Mark) → sole m ≡ Some t → Spells (Token.sign t) (mark_byte m ∷ []) rest
  equals : {rest : List ℕ} → Spells (Token.sign Sign.equals) (61 ∷ 61 ∷ []) rest
  single_equals : (rest : List ℕ) → Ends (λ x. nat_eq x 61) rest → Spells (Token.sign Sign.stray) (61 ∷ []) rest
  node : {x : ℕ} {xs : List ℕ} (rest : List ℕ) → class_of x ≡ class.Capital → Each (of_name false) true xs → length (x ∷ xs) ≤ name_limit
      → Ends (of_name false) rest → Spells (Token.node (x ∷ xs)) (x ∷ xs) rest
  atom : {x : ℕ} {xs : List ℕ} (rest : List ℕ) → class_of x ≡ class.Plain → Each (of_name false) true xs → length (x ∷ xs) ≤ name_limit
      → Ends (of_name false) rest → Spells (Token.atom (x ∷ xs)) (x ∷ xs) rest
  quoted : {xs rest : List ℕ} → Each (of_name true) true xs → 1 ≤ length xs → length xs ≤ name_limit
      → Spells (Token.atom xs) (39 ∷ (xs ++ (39 ∷ []))) rest

-- The bytes from a fault on: a bad byte; a quoted run that a control byte or the text's end cuts off; a name that is too long; a quoted name that is
-- too long or empty.
pub data Faulty : WordRefusal → List ℕ → Type 0 where
  bad_byte : {x : ℕ} {rest : List ℕ} → class_of x ≡ class.Bad → Faulty BadByte (x ∷ rest)
  open_quote : {xs : List ℕ} (rest : List ℕ) → Each (of_name true) true xs → Ends (λ x. not (control x)) rest → Faulty OpenQuote (39 ∷ (xs ++ rest))
  long_name : {x : ℕ} {xs : List ℕ} (rest : List ℕ) → Each (of_name false) true (x ∷ xs) → name_limit < length (x ∷ xs) → Ends (of_name false) rest
      → Faulty NameLength (x ∷ (xs ++ rest))
  long_quoted : {xs : List ℕ} (rest : List ℕ) → Each (of_name true) true xs → name_limit < length xs → Faulty NameLength (39 ∷ (xs ++ (39 ∷ rest)))
  empty_quoted : {rest : List ℕ} → Faulty NameLength (39 ∷ 39 ∷ rest)

-- The bytes from a place on are read as these words: the words lie in order without overlap, between them stand only blanks and comments, each is
-- spelt by its bytes, and names are as long as they can be.
pub data Reads : ℕ → List ℕ → Words → Type 0 where
  end : {at : ℕ} {g : List ℕ} → Gap g [] → Reads at g (end_at (at + length g))
  fault : {at : ℕ} {bytes g rest : List ℕ} {r : WordRefusal} → bytes ≡ g ++ rest → Gap g rest → Faulty r rest → Reads at bytes (fault_at r (at + length g))
  word : {at s e : ℕ} {bytes g w rest : List ℕ} {t : Token} {more : Words}
      → bytes ≡ g ++ (w ++ rest) → s ≡ at + length g → e ≡ s + length w → Gap g (w ++ rest) → Spells t w rest → Reads e rest more → Reads at bytes (Words.word s t e more)

-- A text is read as its words, and in no other way; it has no more words than bytes.
pub record WordsAreExact (text : List ℕ) : Type 0 where
  pub reads : Reads 0 text (words_of text)
  pub only : (ws : Words) → Reads 0 text ws → ws ≡ words_of text
  pub few : word_count (words_of text) ≤ length text
