-- The words of a text, their names numbered as first met; and what loading a text gives.
use Rattle.std.specs.Prelude.{ℕ, cond, List, [], length, nat_lt}
use Rattle.stores.specs.Sentences.{Sentence}
use Rattle.stores.specs.Refusals.{Limits}
use Rattle.names.specs.Numbers.{number, met}
use Rattle.words.specs.Words as words
use Rattle.words.specs.Words.{Sign, Token}
use Rattle.words.specs.Texts.{Words, end_at, fault_at, words_of}
use Rattle.grammar.specs.Trees.{Word, AtomName, NodeName, Less, Greater, Quote, Colon, Is, Stop, Open, Close, Stray, sentences}
use Rattle.grammar.specs.Parsing.{Stream, word, over, broken, between, Outcome, accepted, refused}
use Rattle.grammar.specs.Loading.{load}

-- the names met, each at its number
pub record Names : Type 0 where
  pub nodes : List (List ℕ)
  pub atoms : List (List ℕ)

abbrev pub sign_word : Sign → Word
sign_word Sign.less = Less
sign_word Sign.greater = Greater
sign_word Sign.colon = Colon
sign_word Sign.equals = Is
sign_word Sign.stop = Stop
sign_word Sign.quote = Quote
sign_word Sign.open_paren = Open
sign_word Sign.close_paren = Close
sign_word Sign.stray = Stray

abbrev pub token_word : Names → Token → Word
token_word ns (Token.sign x) = sign_word x
token_word ns (Token.node x) = NodeName (record { 0 = number ns.nodes x })
token_word ns (Token.atom x) = AtomName (record { 0 = number ns.atoms x })
token_word ns Token.text_end = Stray

abbrev pub token_names : Names → Token → Names
token_names ns (Token.sign x) = ns
token_names ns (Token.node x) = record { nodes = met ns.nodes x; atoms = ns.atoms }
token_names ns (Token.atom x) = record { nodes = ns.nodes; atoms = met ns.atoms x }
token_names ns Token.text_end = ns

-- the words with their numbers, from the names ns on
unfoldable pub numbering : Names → Words → Stream
numbering ns (Words.word s t e more) = word s (token_word ns t) (numbering (token_names ns t) more)
numbering ns (end_at s) = over s
numbering ns (fault_at r s) = broken (words.number r) s

-- all names, with those of the words
unfoldable pub all_names : Names → Words → Names
all_names ns (Words.word s t e more) = all_names (token_names ns t) more
all_names ns (end_at s) = ns
all_names ns (fault_at r s) = ns

pub data Loaded : Type 0 where
  kept : List Sentence → Names → Loaded
  rejected : ℕ → ℕ → Loaded

abbrev pub loaded_by : Outcome → Names → Loaded
loaded_by (accepted bs) ns = kept (sentences bs) ns
loaded_by (refused n p) ns = rejected n p

-- a text has at most so many bytes
abbrev pub text_limit : ℕ
text_limit = 65536

-- What a load of a text gives, the names ns being met before: its sentences and the names after it, or the number and place of its first fault.
unfoldable pub load_text : Limits → Names → List ℕ → Loaded
load_text l ns text =
    cond (nat_lt text_limit (length text)) (rejected 11 text_limit)
    (loaded_by (load l (numbering ns (words_of text)) (between [])) (all_names ns (words_of text)))
