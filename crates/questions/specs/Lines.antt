-- What a line of input asks: a node, a colon and a path of atoms.
use Rattle.std.specs.Prelude.{ℕ, Bool, true, false, cond, List, [], ◌∷◌, ◌++◌, length, Some, None, Ok, Err, Option, Result, nat_le, nat_lt}
use Rattle.terms.specs.declared.items.Node.{Node}
use Rattle.terms.specs.declared.items.Atom.{Atom}
use Rattle.terms.specs.Limits.{node_limit, atom_limit, path_limit}
use Rattle.path.specs.Atoms.{atoms_of}
use Rattle.names.specs.declared.tables.Names.{Names as NameTables}
use Rattle.names.specs.Tables.{nodes_in, atoms_in}
use Rattle.names.specs.Numbers.{number}
use Rattle.words.specs.Words as words
use Rattle.words.specs.Words.{Sign, Token}
use Rattle.words.specs.Texts.{Words, end_at, fault_at, words_of}
use Rattle.grammar.specs.Texts.{Names, token_names}
use Rattle.questions.specs.declared.asked.Asked.{Asked}
use Rattle.questions.specs.declared.line_fault.LineFault.{LineFault}
use Rattle.questions.specs.Refusals as refusals
use Rattle.questions.specs.Refusals.{line_limit}

-- A line without words is nothing; it asks for a path at a node, with the names after it; or it has a fault, with its number and place.
pub data Line : Type 0 where
  nothing : Line
  asks : Node → List Atom → Names → Line
  rejected : ℕ → ℕ → Line

-- the numbers of names
abbrev pub node_of : Names → List ℕ → Node
node_of ns x = record { 0 = number ns.nodes x }

abbrev pub atom_of : Names → List ℕ → Atom
atom_of ns x = record { 0 = number ns.atoms x }

abbrev pub is_colon_lem : Sign → Bool
is_colon_lem Sign.less = false
is_colon_lem Sign.greater = false
is_colon_lem Sign.colon = true
is_colon_lem Sign.equals = false
is_colon_lem Sign.stop = false
is_colon_lem Sign.quote = false
is_colon_lem Sign.open_paren = false
is_colon_lem Sign.close_paren = false
is_colon_lem Sign.stray = false

abbrev pub is_less_lem : Sign → Bool
is_less_lem Sign.less = true
is_less_lem Sign.greater = false
is_less_lem Sign.colon = false
is_less_lem Sign.equals = false
is_less_lem Sign.stop = false
is_less_lem Sign.quote = false
is_less_lem Sign.open_paren = false
is_less_lem Sign.close_paren = false
is_less_lem Sign.stray = false

abbrev pub is_greater : Sign → Bool
is_greater Sign.less = false
is_greater Sign.greater = true
is_greater Sign.colon = false
is_greater Sign.equals = false
is_greater Sign.stop = false
is_greater Sign.quote = false
is_greater Sign.open_paren = false
is_greater Sign.close_paren = false
is_greater Sign.stray = false

abbrev pub is_sign : (Sign → Bool) → Token → Bool
is_sign p (Token.sign x) = p x
is_sign p (Token.node x) = false
is_sign p (Token.atom x) = false
is_sign p Token.text_end = false

-- a sign that passes the test, and what the words behind it come to
abbrev pub past : (Sign → Bool) → (Words → Line) → Words → Line
past p k (end_at s) = rejected 4 s
past p k (fault_at r s) = rejected (words.number r) s
past p k (Words.word s t e more) = cond (is_sign p t) (k more) (rejected 4 s)

-- behind the >; how long the path is comes last
abbrev pub to_the_end : Node → List Atom → Names → Words → Line
to_the_end n l ns (end_at s) = cond (nat_le (length l) path_limit) (asks n l ns) (rejected 12 0)
to_the_end n l ns (fault_at r s) = rejected (words.number r) s
to_the_end n l ns (Words.word s t e more) = rejected 4 s

-- within the path, behind these atoms
unfoldable pub in_path : Node → List Atom → Names → Words → Line
in_path n l ns (end_at s) = rejected 4 s
in_path n l ns (fault_at r s) = rejected (words.number r) s
in_path n l ns (Words.word s (Token.sign x) e more) = cond (is_greater x) (to_the_end n l ns more) (rejected 4 s)
in_path n l ns (Words.word s (Token.node x) e more) = rejected 4 s
in_path n l ns (Words.word s (Token.atom x) e more) =
    cond (nat_lt (number ns.atoms x) atom_limit) (in_path n (l ++ atom_of ns x ∷ []) (token_names ns (Token.atom x)) more) (rejected 10 s)
in_path n l ns (Words.word s Token.text_end e more) = rejected 4 s

-- behind the node
abbrev pub behind_node : Node → Names → Words → Line
behind_node n ns = past is_colon_lem (past is_less_lem (in_path n [] ns))

abbrev pub line_from : Names → Words → Line
line_from ns (end_at s) = nothing
line_from ns (fault_at r s) = rejected (words.number r) s
line_from ns (Words.word s (Token.sign x) e more) = rejected 4 s
line_from ns (Words.word s (Token.node x) e more) =
    cond (nat_lt (number ns.nodes x) node_limit) (behind_node (node_of ns x) (token_names ns (Token.node x)) more) (rejected 10 s)
line_from ns (Words.word s (Token.atom x) e more) = rejected 4 s
line_from ns (Words.word s Token.text_end e more) = rejected 4 s

-- What a line comes to, the names ns being met before.
unfoldable pub read_line : Names → List ℕ → Line
read_line ns line = cond (nat_lt line_limit (length line)) (rejected 11 line_limit) (line_from ns (words_of line))

-- the names after a line: those before it, unless it asks something
abbrev pub names_left : Names → Line → Names
names_left ns nothing = ns
names_left ns (asks n l ms) = ms
names_left ns (rejected m s) = ns

-- The answers of the code as lines, and its tables as names.
abbrev pub faulted : LineFault → Line
faulted e = rejected (refusals.number e) (refusals.place e)

abbrev pub line_of : Result (Option Asked) LineFault → Names → Line
line_of (Ok None) ns = nothing
line_of (Ok (Some q)) ns = asks q.node (atoms_of q.path) ns
line_of (Err e) ns = faulted e

abbrev pub names_of : NameTables → Names
names_of n = record { nodes = nodes_in n; atoms = atoms_in n }
