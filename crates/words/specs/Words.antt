-- The word at a place of a text.
use Rattle.std.specs.Prelude.{ℕ, ◌+◌, Bool, true, false, cond, not, ◌&&◌, List, [], ◌∷◌, take, drop, Ok, Err, Result, ◌==◌, nat_le, slice_index}
use Rattle.std.specs.Borrow.{Bor}
use Rattle.std.specs.List.{prefix_len}
use Rattle.classes.specs.declared.Mark.{Mark}
use Rattle.classes.specs.declared.Mark.TheVariants as mark
use Rattle.classes.specs.declared.ByteClass.{ByteClass}
use Rattle.classes.specs.declared.ByteClass.TheVariants as class
use Rattle.classes.specs.Classes.{control, class_of}
use Rattle.words.specs.declared.word.Word.{Word}
use Rattle.words.specs.declared.word.Word.TheVariants as word
use Rattle.words.specs.declared.word.Placed.{Placed}
use Rattle.words.specs.declared.faults.WordFault.{WordFault}
use Rattle.words.specs.declared.faults.WordRefusal.{WordRefusal}
use Rattle.words.specs.declared.faults.WordRefusal.TheVariants.{BadByte, OpenQuote, NameLength}

-- The words that are no names. A stray mark, # $ { } or a single =, stands in no theory.
pub data Sign : Type 0 where
  less greater colon equals stop quote open_paren close_paren stray : Sign

-- what a word is
pub data Token : Type 0 where
  sign : Sign → Token
  node : List ℕ → Token
  atom : List ℕ → Token
  text_end : Token

-- What is read: a word, with the place where it stands and the place behind it; or a fault at a place.
pub data Reading : Type 0 where
  read : ℕ → Token → ℕ → Reading
  refused : WordRefusal → ℕ → Reading

-- the number of each fault
abbrev pub number : WordRefusal → ℕ
number BadByte = 1
number OpenQuote = 2
number NameLength = 3

-- a name has at most so many bytes
abbrev pub name_limit : ℕ
name_limit = 32

abbrev pub is_blank : ByteClass → Bool
is_blank class.Blank = true
is_blank class.Bad = false
is_blank (class.Mark m) = false
is_blank class.Capital = false
is_blank class.Plain = false

abbrev pub is_name : ByteClass → Bool
is_name class.Blank = false
is_name class.Bad = false
is_name (class.Mark m) = false
is_name class.Capital = true
is_name class.Plain = true

abbrev pub blank_byte : ℕ → Bool
blank_byte b = is_blank (class_of b)

-- the bytes of a name: capitals and plain ones, and between quotes all but control bytes and the quote
abbrev pub of_name : Bool → ℕ → Bool
of_name false b = is_name (class_of b)
of_name true b = not (control b) && not (b == 39)

-- how many bytes of blanks and comments stand in front; true within a comment
abbrev pub gap : Bool → List ℕ → ℕ
gap c [] = 0
gap false (b ∷ bs) = cond (b == 37) (1 + gap true bs) (cond (blank_byte b) (1 + gap false bs) 0)
gap true (b ∷ bs) = 1 + gap (not (b == 10)) bs

-- The name of n bytes in front of bs, from place s on, unquoted; and quoted, with its first ' at s and bs behind that.
abbrev pub bare : (List ℕ → Token) → ℕ → List ℕ → ℕ → Reading
bare f s bs n = cond (nat_le n name_limit) (read s (f (take n bs)) (s + n)) (refused NameLength s)

abbrev pub quoted : (List ℕ → Token) → ℕ → List ℕ → ℕ → Reading
quoted f s bs n =
    cond (slice_index bs n == 39) (cond (nat_le 1 n && nat_le n name_limit) (read s (f (take n bs)) (s + 1 + n + 1)) (refused NameLength s)) (refused OpenQuote s)

-- the word that begins with a mark at s, bs being the text behind it
abbrev pub marked : ℕ → Mark → List ℕ → Reading
marked s mark.Less bs = read s (sign less) (s + 1)
marked s mark.Greater bs = read s (sign greater) (s + 1)
marked s mark.Colon bs = read s (sign colon) (s + 1)
marked s mark.Equals bs = cond (slice_index bs 0 == 61) (read s (sign equals) (s + 2)) (read s (sign stray) (s + 1))
marked s mark.Stop bs = read s (sign stop) (s + 1)
marked s mark.Quote bs = read s (sign quote) (s + 1)
marked s mark.Tick bs = quoted atom s bs (prefix_len (of_name true) bs)
marked s mark.Percent bs = read s (sign stray) (s + 1)
marked s mark.Open bs = read s (sign open_paren) (s + 1)
marked s mark.Close bs = read s (sign close_paren) (s + 1)
marked s mark.Hash bs = read s (sign stray) (s + 1)
marked s mark.Dollar bs = read s (sign stray) (s + 1)
marked s mark.LeftBrace bs = read s (sign stray) (s + 1)
marked s mark.RightBrace bs = read s (sign stray) (s + 1)

abbrev pub starting : ℕ → ByteClass → ℕ → List ℕ → Reading
starting s class.Blank b bs = refused BadByte s
starting s class.Bad b bs = refused BadByte s
starting s (class.Mark m) b bs = marked s m bs
starting s class.Capital b bs = bare node s (b ∷ bs) (prefix_len (of_name false) (b ∷ bs))
starting s class.Plain b bs = bare atom s (b ∷ bs) (prefix_len (of_name false) (b ∷ bs))

-- the word that begins right at s, where the text goes on with these bytes
abbrev pub word_from : ℕ → List ℕ → Reading
word_from s [] = read s text_end s
word_from s (b ∷ bs) = starting s (class_of b) b bs

-- the next word, read from a place on: the one behind the blanks and comments
abbrev pub word_at : List ℕ → ℕ → Reading
word_at text at = word_from (at + gap false (drop at text)) (drop (at + gap false (drop at text)) text)

-- where a reader stands afterwards: behind the word; a fault leaves it where it was
abbrev pub place_after : Reading → ℕ → ℕ
place_after (read s t after) at = after
place_after (refused r s) at = at

-- The answers of the code as readings.
abbrev pub token : Word → Token
token word.Less = sign less
token word.Greater = sign greater
token word.Colon = sign colon
token word.Equals = sign equals
token word.Stop = sign stop
token word.Quote = sign quote
token word.Open = sign open_paren
token word.Close = sign close_paren
token (word.Node x) = node x.now
token (word.Atom x) = atom x.now
token word.Stray = sign stray
token word.End = text_end

abbrev pub named_by : (List ℕ → Token) → ℕ → Result (Bor (List ℕ) × ℕ) WordRefusal → Reading
named_by f s (Ok p) = read s (f p.0.now) p.1
named_by f s (Err r) = refused r s

abbrev pub read_by : ℕ → Result (Word × ℕ) WordRefusal → Reading
read_by s (Ok p) = read s (token p.0) p.1
read_by s (Err r) = refused r s

abbrev pub reading_of : Result Placed WordFault → ℕ → Reading
reading_of (Ok p) after = read p.place (token p.word) after
reading_of (Err f) after = refused f.refusal f.place
