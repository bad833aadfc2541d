-- What each part of reading a line comes to.
use Rattle.std.specs.Prelude.{◌≡◌, ℕ, ◌≤◌, Bool, cond, List, [], ◌++◌, length, Some, None, Ok, Err, Option, Result, nat_le, nat_lt}
use Rattle.std.specs.Option.{option_map}
use Rattle.terms.specs.declared.items.Node.{Node}
use Rattle.terms.specs.declared.items.Atom.{Atom}
use Rattle.terms.specs.Limits.{node_limit, atom_limit, path_limit}
use Rattle.path.specs.declared.Path.{Path}
use Rattle.path.specs.Atoms.{atoms_of}
use Rattle.names.specs.Numbers as numbers
use Rattle.words.specs.declared.faults.WordFault.{WordFault}
use Rattle.words.specs.declared.reader.WordReader.{WordReader}
use Rattle.words.specs.declared.word.Placed.{Placed}
use Rattle.words.specs.declared.word.Word.{Word}
use Rattle.words.specs.Words.{Sign, Token, token, name_limit}
use Rattle.words.specs.Texts.{Words, fault_at, onward, words_from}
use Rattle.grammar.specs.Texts.{Names, token_names}
use Rattle.questions.specs.declared.line_fault.LineFault.{LineFault}
use Rattle.faults.specs.declared.kinds.NameFault.{NameFault}
use Rattle.questions.specs.declared.asked.Asked.{Asked}
use Rattle.questions.specs.Lines.{Line, asks, faulted, node_of, atom_of, is_sign, past, to_the_end, in_path, behind_node}

-- names that have more behind them
abbrev pub Longer : List (List ℕ) → List (List ℕ) → Type 0
Longer old new = (more : List (List ℕ)) × (new ≡ old ++ more)

abbrev pub Grown : Names → Names → Type 0
Grown old new = Longer old.nodes new.nodes × Longer old.atoms new.atoms

abbrev pub words_left : WordReader → Words
words_left rd = words_from rd.text.now rd.at

-- the words from before a reading on, by what was read
abbrev pub read_as : Result Placed WordFault → WordReader → Words
read_as (Ok p) rd = onward p.place (token p.word) rd.at (words_from rd.text.now)
read_as (Err f) rd = fault_at f.refusal f.place

-- a name is no longer than a word's name may be
abbrev pub Short : Token → Type 0
Short (Token.sign x) = Unit {0}
Short (Token.node x) = length x ≤ name_limit
Short (Token.atom x) = length x ≤ name_limit
Short Token.text_end = Unit {0}

-- by what a test of words returns: it tests whether a word is the sign
abbrev pub TestsSign : (Word → Bool → Type 0) → (Sign → Bool) → Type 0
TestsSign returns sign = (w : Word) (b : Bool) → returns w b → b ≡ is_sign sign (token w)

-- a sign is passed, and the line goes on behind it
abbrev pub passed : Result (Unit {0}) LineFault → Line → Line
passed (Ok u) l = l
passed (Err e) l = faulted e

abbrev pub Passes : (Sign → Bool) → Words → Result (Unit {0}) LineFault → Words → Type 0
Passes p W r W' = (k : Words → Line) → past p k W ≡ passed r (k W')

-- a name with a number below the limit, and the names then
abbrev pub node_or_fault : Names → List ℕ → ℕ → Result Node NameFault
node_or_fault ns x s = cond (nat_lt (numbers.number ns.nodes x) node_limit) (Ok (node_of ns x)) (Err (record { place = s }))

abbrev pub names_with_node : Names → List ℕ → Names
names_with_node ns x = cond (nat_lt (numbers.number ns.nodes x) node_limit) (token_names ns (Token.node x)) ns

abbrev pub atom_or_fault : Names → List ℕ → ℕ → Result Atom NameFault
atom_or_fault ns x s = cond (nat_lt (numbers.number ns.atoms x) atom_limit) (Ok (atom_of ns x)) (Err (record { place = s }))

abbrev pub names_with_atom : Names → List ℕ → Names
names_with_atom ns x = cond (nat_lt (numbers.number ns.atoms x) atom_limit) (token_names ns (Token.atom x)) ns

-- as many atoms as a path may have, or none
abbrev pub within : List Atom → Option (List Atom)
within l = cond (nat_le (length l) path_limit) (Some l) None

-- the atoms of a path and its >
abbrev pub ReadsAtoms : Names → Words → Result (Option Path) LineFault → Names → Words → Type 0
ReadsAtoms ns W (Ok o) ns' W' = (l : List Atom) × ((option_map atoms_of o ≡ within l) × ((n : Node) → in_path n [] ns W ≡ to_the_end n l ns' W'))
ReadsAtoms ns W (Err e) ns' W' = (n : Node) → in_path n [] ns W ≡ faulted e

-- all that stands behind the node
abbrev pub asked_at : Node → Result Path LineFault → Names → Line
asked_at n (Ok p) ns = asks n (atoms_of p) ns
asked_at n (Err e) ns = faulted e

abbrev pub ReadsPath : Names → Words → Result Path LineFault → Names → Type 0
ReadsPath ns W r ns' = (n : Node) → behind_node n ns W ≡ asked_at n r ns'

-- a line without words has no names
abbrev pub Unnamed : Result (Option Asked) LineFault → Names → Names → Type 0
Unnamed (Ok None) ns ns' = ns' ≡ ns
Unnamed (Ok (Some q)) ns ns' = Unit {0}
Unnamed (Err e) ns ns' = Unit {0}
