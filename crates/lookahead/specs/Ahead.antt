-- The words to come, and where a load comes to from them.
use Rattle.std.specs.Prelude.{◌≡◌, ℕ, suc, ◌≤◌, cond, List, ◌++◌, length, Ok, Err, Result, nat_lt}
use Rattle.terms.specs.Limits.{node_limit, atom_limit}
use Rattle.stores.specs.Refusals.{Limits}
use Rattle.names.specs.declared.tables.Names.{Names as NameTables}
use Rattle.names.specs.Tables.{nodes_in, atoms_in}
use Rattle.names.specs.Numbers as numbers
use Rattle.words.specs.declared.faults.WordRefusal.{WordRefusal}
use Rattle.words.specs.Words as words
use Rattle.words.specs.Words.{Sign, Token}
use Rattle.words.specs.Texts.{Words, words_from}
use Rattle.grammar.specs.Trees as T
use Rattle.grammar.specs.Parsing.{Stream, word, over, broken, State}
use Rattle.grammar.specs.Loading.{load}
use Rattle.grammar.specs.Texts.{Names, numbering, all_names, Loaded, loaded_by}
use Rattle.lookahead.specs.declared.word.Word.{Word}
use Rattle.lookahead.specs.declared.word.Word.TheVariants as w
use Rattle.lookahead.specs.declared.parser.Parser.{Parser}

abbrev pub names_of : NameTables → Names
names_of n = record { nodes = nodes_in n; atoms = atoms_in n }

-- the names with more behind them
abbrev pub Longer : List (List ℕ) → List (List ℕ) → Type 0
Longer old new = (more : List (List ℕ)) × (new ≡ old ++ more)

abbrev pub Grown : Names → Names → Type 0
Grown old new = Longer old.nodes new.nodes × Longer old.atoms new.atoms

-- a word in front of a stream; the end and a fault have nothing behind them, and a name without a number has the first number that none has
abbrev pub cons : ℕ → Result Word WordRefusal → Stream → Stream
cons s (Ok (w.Atom a)) R = word s (T.AtomName a) R
cons s (Ok w.UnnumberedAtom) R = word s (T.AtomName (record { 0 = atom_limit })) R
cons s (Ok (w.Node n)) R = word s (T.NodeName n) R
cons s (Ok w.UnnumberedNode) R = word s (T.NodeName (record { 0 = node_limit })) R
cons s (Ok w.Less) R = word s T.Less R
cons s (Ok w.Greater) R = word s T.Greater R
cons s (Ok w.Quote) R = word s T.Quote R
cons s (Ok w.Colon) R = word s T.Colon R
cons s (Ok w.Equals) R = word s T.Is R
cons s (Ok w.Stop) R = word s T.Stop R
cons s (Ok w.Open) R = word s T.Open R
cons s (Ok w.Close) R = word s T.Close R
cons s (Ok w.Stray) R = word s T.Stray R
cons s (Ok w.End) R = over s
cons s (Err r) R = broken (words.number r) s

-- the words behind the one ahead; all words to come, numbered; and the names once all are met
abbrev pub behind_ahead : Parser → Words
behind_ahead p = words_from p.reader.text.now p.reader.at

abbrev pub later : Names → Parser → Stream
later ns p = numbering ns (behind_ahead p)

abbrev pub rest : Names → Parser → Stream
rest ns p = cons p.place p.word (later ns p)

abbrev pub final : Names → Parser → Names
final ns p = all_names ns (behind_ahead p)

unfoldable pub size : Stream → ℕ
size (word s v R) = suc (size R)
size (over s) = 0
size (broken n p) = 0

-- what a load comes to from a state on, and the names then
abbrev pub gives : Limits → Stream → Names → State → Loaded
gives l S F σ = loaded_by (load l S σ) F

-- one stream is as good as another
abbrev pub Moves : Stream → Names → Stream → Names → Type 0
Moves S F S' F' = (l : Limits) (σ : State) → gives l S F σ ≡ gives l S' F' σ

-- the number of the fault that a word is where no theory has it
abbrev pub fault_number : Result Word WordRefusal → ℕ
fault_number (Ok k) = 4
fault_number (Err r) = words.number r

-- The word that a token is, with its name numbered.
abbrev pub sign_of : Sign → Word
sign_of Sign.less = w.Less
sign_of Sign.greater = w.Greater
sign_of Sign.colon = w.Colon
sign_of Sign.equals = w.Equals
sign_of Sign.stop = w.Stop
sign_of Sign.quote = w.Quote
sign_of Sign.open_paren = w.Open
sign_of Sign.close_paren = w.Close
sign_of Sign.stray = w.Stray

-- the name of a node, or of an atom, with this number, if that is one that they have
abbrev pub node_word : ℕ → Word
node_word n = cond (nat_lt n node_limit) (w.Node (record { 0 = n })) w.UnnumberedNode

abbrev pub atom_word : ℕ → Word
atom_word n = cond (nat_lt n atom_limit) (w.Atom (record { 0 = n })) w.UnnumberedAtom

abbrev pub word_for : Names → Token → Word
word_for ns (Token.sign x) = sign_of x
word_for ns (Token.node x) = node_word (numbers.number ns.nodes x)
word_for ns (Token.atom x) = atom_word (numbers.number ns.atoms x)
word_for ns Token.text_end = w.End

-- a name of at most 32 bytes
abbrev pub Short : Token → Type 0
Short (Token.sign x) = Unit {0}
Short (Token.node x) = length x ≤ 32
Short (Token.atom x) = length x ≤ 32
Short Token.text_end = Unit {0}
