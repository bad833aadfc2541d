-- Which lines are questions, and which are nothing.
use Rattle.std.specs.Prelude.{◌≡◌, ℕ, ◌≤◌, true, ◌↔◌, List, [], ◌∷◌, ◌++◌, map, length, Some}
use Rattle.terms.specs.declared.items.Node.{Node}
use Rattle.terms.specs.declared.items.Atom.{Atom}
use Rattle.terms.specs.Limits.{path_limit}
use Rattle.terms.specs.Maps.{every, node_in_range, atom_in_range}
use Rattle.names.specs.Numbers.{name_at}
use Rattle.words.specs.Words.{Sign, Token}
use Rattle.words.specs.Texts.{Words, end_at, words_of}
use Rattle.grammar.specs.Texts.{Names, all_names}
use Rattle.grammar.specs.Naming.{Extends}
use Rattle.questions.specs.Refusals.{line_limit}
use Rattle.questions.specs.Lines.{nothing, asks, node_of, atom_of, read_line}

-- the words are these, up to the text's end and without a fault
pub data Are : List Token → Words → Type 0 where
  ended : {s : ℕ} → Are [] (end_at s)
  next : {s e : ℕ} {t : Token} {ts : List Token} {more : Words} → Are ts more → Are (t ∷ ts) (Words.word s t e more)

-- the words of a question for a path at a node
abbrev pub path_words : List (List ℕ) → List Token
path_words xs = map Token.atom xs ++ Token.sign Sign.greater ∷ []

abbrev pub question_words : List ℕ → List (List ℕ) → List Token
question_words x xs = Token.node x ∷ (Token.sign Sign.colon ∷ (Token.sign Sign.less ∷ path_words xs))

-- The line is short enough and has a question's words, whose names have numbers within the limits: n and l are the numbers of these names in the table
-- afterwards, which has the names in front as they were.
pub record Asks (ns : Names) (line : List ℕ) (n : Node) (l : List Atom) (ns' : Names) : Type 0 where
  pub short : length line ≤ line_limit
  pub name : List ℕ
  pub path : List (List ℕ)
  pub words : Are (question_words name path) (words_of line)
  pub few : length path ≤ path_limit
  pub names : ns' ≡ all_names ns (words_of line)
  pub node : n ≡ node_of ns' name
  pub atoms : l ≡ map (atom_of ns') path
  pub node_numbered : node_in_range n ≡ true
  pub atoms_numbered : every atom_in_range l ≡ true

-- The table after the line has the old names at their numbers, and the question's names at those that it asks with.
pub record Named (ns : Names) (x : List ℕ) (xs : List (List ℕ)) (n : Node) (l : List Atom) (ns' : Names) : Type 0 where
  pub old_nodes : Extends ns.nodes ns'.nodes
  pub old_atoms : Extends ns.atoms ns'.atoms
  pub node_named : name_at ns'.nodes n.0 ≡ Some x
  pub atoms_named : map (λ (a : Atom). name_at ns'.atoms a.0) l ≡ map Some xs

pub record IsReadRightly (ns : Names) (line : List ℕ) : Type 0 where
  pub question : (n : Node) (l : List Atom) (ns' : Names) → (read_line ns line ≡ asks n l ns') ↔ Asks ns line n l ns'
  pub named : (n : Node) (l : List Atom) (ns' : Names) (q : Asks ns line n l ns') → Named ns q.name q.path n l ns'
  pub none : (read_line ns line ≡ nothing) ↔ ((length line ≤ line_limit) × Are [] (words_of line))
