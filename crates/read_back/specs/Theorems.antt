-- What is written is read back.
use Rattle.std.specs.Prelude.{◌≡◌, ℕ, ◌≤◌, List, [], map, length, Some}
use Rattle.terms.specs.declared.items.Node.{Node}
use Rattle.terms.specs.declared.items.Atom.{Atom}
use Rattle.terms.specs.Limits.{path_limit}
use Rattle.names.specs.Numbers.{name_at}
use Rattle.words.specs.Words.{Token}
use Rattle.words.specs.Texts.{words_of}
use Rattle.grammar.specs.Texts.{Names, all_names}
use Rattle.questions.specs.Refusals.{line_limit}
use Rattle.questions.specs.Lines.{asks, atom_of, read_line}
use Rattle.questions.specs.Questions.{Are, question_words}
use Rattle.lines.specs.Bytes.{names_at, question_bytes, value_bytes}
use Rattle.read_back.specs.Spellings.{Spellable, Within}

-- The question for a path at a node, written with the names x and xs that these have: its words are those of a question for x and xs, and a line that has
-- them reads as that question and has no new name.
pub record QuestionComesBack (ns : Names) (n : Node) (l : List Atom) (x : List ℕ) (xs : List (List ℕ)) : Type 0 where
  pub words : Are (question_words x xs) (words_of (question_bytes x xs))
  pub read : Within ns → length l ≤ path_limit → length (question_bytes x xs) ≤ line_limit → read_line ns (question_bytes x xs) ≡ asks n l ns

abbrev pub QuestionsComeBack : Type 0
QuestionsComeBack = (ns : Names) → Spellable ns → (n : Node) (l : List Atom) (x : List ℕ) (xs : List (List ℕ))
    → name_at ns.nodes n.0 ≡ Some x → names_at ns.atoms l ≡ Some xs → QuestionComesBack ns n l x xs

-- A value, written with the names xs that its atoms have: its words are these names, and they have the numbers of its atoms.
pub record ValueComesBack (ns : Names) (v : List Atom) (xs : List (List ℕ)) : Type 0 where
  pub words : Are (map Token.atom xs) (words_of (value_bytes xs))
  pub numbers : map (atom_of ns) xs ≡ v
  pub names : all_names ns (words_of (value_bytes xs)) ≡ ns

abbrev pub ValuesComeBack : Type 0
ValuesComeBack = (ns : Names) → Spellable ns → (v : List Atom) (xs : List (List ℕ)) → names_at ns.atoms v ≡ Some xs → ValueComesBack ns v xs

-- A new table has no names; texts, and lines that ask something, only give names that texts can spell.
pub record NamesStaySpellable : Type 0 where
  pub none : Spellable (record { nodes = []; atoms = [] })
  pub text : (ns : Names) → Spellable ns → (bytes : List ℕ) → Spellable (all_names ns (words_of bytes))
  pub line : (ns : Names) → Spellable ns → (bytes : List ℕ) (n : Node) (l : List Atom) (ns' : Names) → read_line ns bytes ≡ asks n l ns' → Spellable ns'
