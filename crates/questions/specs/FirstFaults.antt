-- Why a line is refused: the first fault, with its number and its place.
use Rattle.std.specs.Prelude.{◌≡◌, ℕ, ◌<◌, ◌≤◌, Bool, true, false, List, [], ◌∷◌, ◌++◌, length, nat_lt}
use Rattle.terms.specs.Limits.{node_limit, atom_limit, path_limit}
use Rattle.names.specs.Numbers.{number}
use Rattle.words.specs.declared.faults.WordRefusal.{WordRefusal}
use Rattle.words.specs.Words as words
use Rattle.words.specs.Words.{Token}
use Rattle.words.specs.Texts.{Words, end_at, fault_at, words_of}
use Rattle.grammar.specs.Texts.{Names, token_names}
use Rattle.questions.specs.Refusals.{line_limit}
use Rattle.questions.specs.Lines.{rejected, read_line}
use Rattle.questions.specs.Questions.{question_words}

-- the words of some question begin with these; they are the words of one
abbrev pub Begins : List Token → Type 0
Begins ts = (x : List ℕ) × ((xs : List (List ℕ)) × ((us : List Token) × (question_words x xs ≡ ts ++ us)))

abbrev pub Whole : List Token → Type 0
Whole ts = (x : List ℕ) × ((xs : List (List ℕ)) × (question_words x xs ≡ ts))

-- whether a word's name has a number within the limits; a word that is no name needs none
abbrev pub numbered : Names → Token → Bool
numbered ns (Token.sign x) = true
numbered ns (Token.node x) = nat_lt (number ns.nodes x) node_limit
numbered ns (Token.atom x) = nat_lt (number ns.atoms x) atom_limit
numbered ns Token.text_end = true

-- The first fault behind the words `before`, with which a question's words begin and whose names have their numbers.
pub data FirstFault : Names → List Token → Words → ℕ → ℕ → Type 0 where
  no_word : {ns : Names} {before : List Token} {r : WordRefusal} {s : ℕ} → FirstFault ns before (fault_at r s) (words.number r) s
  misplaced : {ns : Names} {before : List Token} {t : Token} {s e : ℕ} {more : Words} → (Begins (before ++ t ∷ []) → ⊥)
      → FirstFault ns before (Words.word s t e more) 4 s
  too_early : {ns : Names} {before : List Token} {s : ℕ} → 1 ≤ length before → (Whole before → ⊥) → FirstFault ns before (end_at s) 4 s
  no_number : {ns : Names} {before : List Token} {t : Token} {s e : ℕ} {more : Words} → Begins (before ++ t ∷ []) → numbered ns t ≡ false
      → FirstFault ns before (Words.word s t e more) 10 s
  long_path : {ns : Names} {before : List Token} {s : ℕ} (x : List ℕ) (xs : List (List ℕ)) → question_words x xs ≡ before → path_limit < length xs
      → FirstFault ns before (end_at s) 12 0
  further : {ns : Names} {before : List Token} {t : Token} {s e : ℕ} {more : Words} {m p : ℕ} → Begins (before ++ t ∷ []) → numbered ns t ≡ true
      → FirstFault (token_names ns t) (before ++ t ∷ []) more m p → FirstFault ns before (Words.word s t e more) m p

-- A line that is refused is too long, or it has that fault.
pub data Refused (ns : Names) (line : List ℕ) : ℕ → ℕ → Type 0 where
  long_line : line_limit < length line → Refused ns line 11 line_limit
  at_fault : {m p : ℕ} → length line ≤ line_limit → FirstFault ns [] (words_of line) m p → Refused ns line m p

-- It is refused for its fault, and it has one such fault at most.
pub record IsRefusedRightly (ns : Names) (line : List ℕ) : Type 0 where
  pub refused : (m p : ℕ) → read_line ns line ≡ rejected m p → Refused ns line m p
  pub only : (m p m' p' : ℕ) → Refused ns line m p → Refused ns line m' p' → (m ≡ m') × (p ≡ p')
