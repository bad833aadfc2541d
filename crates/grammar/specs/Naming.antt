-- What holds of whole texts.
use Rattle.std.specs.Prelude.{◌≡◌, ℕ, ◌≤◌, ◌↔◌, List, length, Some}
use Rattle.stores.specs.Sentences.{Sentence}
use Rattle.stores.specs.Refusals.{Limits}
use Rattle.names.specs.Numbers.{name_at}
use Rattle.words.specs.declared.faults.WordRefusal.{WordRefusal}
use Rattle.words.specs.Words as words
use Rattle.words.specs.Words.{Token}
use Rattle.words.specs.Texts.{Words, end_at, fault_at, words_of}
use Rattle.grammar.specs.Trees.{Word, AtomName, NodeName, Stray, Block, sentences}
use Rattle.grammar.specs.Parsing.{Stream, word, over, broken}
use Rattle.grammar.specs.Texts.{Names, sign_word, numbering, all_names, text_limit, load_text, kept, rejected}
use Rattle.grammar.specs.Theorems.{Fits, Misplaced}

-- v is the word t, its name being numbered by the table
abbrev pub IsWord : Names → Token → Word → Type 0
IsWord ns (Token.sign x) v = v ≡ sign_word x
IsWord ns (Token.node x) v = (n : ℕ) × ((v ≡ NodeName (record { 0 = n })) × (name_at ns.nodes n ≡ Some x))
IsWord ns (Token.atom x) v = (a : ℕ) × ((v ≡ AtomName (record { 0 = a })) × (name_at ns.atoms a ≡ Some x))
IsWord ns Token.text_end v = v ≡ Stray

-- the stream is the text's words, their names numbered by the table
pub data Numbers (ns : Names) : Words → Stream → Type 0 where
  more : (s : ℕ) (t : Token) (e : ℕ) (v : Word) (r : Words) (S : Stream) → IsWord ns t v → Numbers ns r S → Numbers ns (Words.word s t e r) (word s v S)
  ended : (s : ℕ) → Numbers ns (end_at s) (over s)
  fault : (r : WordRefusal) (s : ℕ) → Numbers ns (fault_at r s) (broken (words.number r) s)

-- the table has what the other has, at the same numbers
abbrev pub Extends : List (List ℕ) → List (List ℕ) → Type 0
Extends old new = (k : ℕ) (x : List ℕ) → name_at old k ≡ Some x → name_at new k ≡ Some x

-- Every number stands for its name in the table after the text, which has the old names at their numbers.
pub record AsMet (ns : Names) (r : Words) : Type 0 where
  pub numbers : Numbers (all_names ns r) r (numbering ns r)
  pub nodes : Extends ns.nodes (all_names ns r).nodes
  pub atoms : Extends ns.atoms (all_names ns r).atoms

abbrev pub NamesAreNumberedAsMet : Type 0
NamesAreNumberedAsMet = (ns : Names) (r : Words) → AsMet ns r

-- A text is kept exactly if it spells a theory within the limits; kept are that theory's sentences.
abbrev pub KeptExactlyIfATheoryIsSpelt : Type 0
KeptExactlyIfATheoryIsSpelt = (l : Limits) (ns : Names) (text : List ℕ) → length text ≤ text_limit → (ss : List Sentence) (ns' : Names)
    → (load_text l ns text ≡ kept ss ns')
    ↔ ((bs : List Block) × (Fits l bs (numbering ns (words_of text)) × ((ss ≡ sentences bs) × (ns' ≡ all_names ns (words_of text)))))

-- Refusal 4 is at the first word with which no theory's words go on.
abbrev pub FourIsAtTheFirstMisplacedWord : Type 0
FourIsAtTheFirstMisplacedWord = (l : Limits) (ns : Names) (text : List ℕ) (p : ℕ)
    → load_text l ns text ≡ rejected 4 p → Misplaced (numbering ns (words_of text)) p
