-- Theories as trees, the words that spell them, and the sentences that they say.
use Rattle.std.specs.Prelude.{ℕ, max, Bool, true, false, List, [], ◌∷◌, ◌++◌, Some, None, Option}
use Rattle.terms.specs.declared.items.Node.{Node}
use Rattle.terms.specs.declared.items.Atom.{Atom}
use Rattle.terms.specs.declared.items.Quoting.{Quoting}
use Rattle.terms.specs.declared.items.Quoting.TheVariants.{Plain as plain, Quoted as quoted}
use Rattle.terms.specs.Terms.{Terms, done, atom, node, path, flat, nesting}
use Rattle.stores.specs.Sentences as stores
use Rattle.stores.specs.Sentences.{Sentence}

-- A word of a text; names are numbered. A stray word stands in no theory.
pub data Word : Type 0 where
  AtomName : Atom → Word
  NodeName : Node → Word
  Less : Word
  Greater : Word
  Quote : Word
  Colon : Word
  Is : Word
  Stop : Word
  Open : Word
  Close : Word
  Stray : Word

-- an equation; its right side may stand in ( and )
pub record Equation : Type 0 where
  pub left : List Atom
  pub round : Bool
  pub right : Terms

pub record Block : Type 0 where
  pub name : Node
  pub equations : List Equation

-- The words of a tree.
abbrev pub opens : Quoting → Option Node → List Word
opens plain None = Less ∷ []
opens plain (Some n) = NodeName n ∷ Colon ∷ Less ∷ []
opens quoted None = Quote ∷ Less ∷ []
opens quoted (Some n) = Quote ∷ NodeName n ∷ Colon ∷ Less ∷ []

abbrev pub closes : Quoting → List Word
closes plain = Greater ∷ []
closes quoted = Greater ∷ Quote ∷ []

abbrev pub node_words : Quoting → Node → List Word
node_words plain n = NodeName n ∷ []
node_words quoted n = Quote ∷ NodeName n ∷ Quote ∷ []

abbrev pub words : Terms → List Word
words done = []
words (atom a rest) = AtomName a ∷ words rest
words (node q n rest) = node_words q n ++ words rest
words (path q n inside rest) = opens q n ++ (words inside ++ (closes q ++ words rest))

abbrev pub atom_words : List Atom → List Word
atom_words [] = []
atom_words (a ∷ ls) = AtomName a ∷ atom_words ls

abbrev pub side_words : Bool → Terms → List Word
side_words false t = words t
side_words true t = Open ∷ (words t ++ Close ∷ [])

abbrev pub equation_words : Equation → List Word
equation_words e = Less ∷ (atom_words e.left ++ (Greater ∷ Is ∷ side_words e.round e.right))

abbrev pub equations_words : List Equation → List Word
equations_words [] = []
equations_words (e ∷ es) = equation_words e ++ equations_words es

abbrev pub block_words : Block → List Word
block_words b = NodeName b.name ∷ Colon ∷ (equations_words b.equations ++ Stop ∷ [])

abbrev pub theory_words : List Block → List Word
theory_words [] = []
theory_words (b ∷ bs) = block_words b ++ theory_words bs

-- The sentences of a tree.
abbrev pub sentence : Node → Equation → Sentence
sentence n e = stores.sentence n e.left (flat e.right)

abbrev pub block_sentences : Node → List Equation → List Sentence
block_sentences n [] = []
block_sentences n (e ∷ es) = sentence n e ∷ block_sentences n es

abbrev pub sentences : List Block → List Sentence
sentences [] = []
sentences (b ∷ bs) = block_sentences b.name b.equations ++ sentences bs

-- how deep its paths nest
abbrev pub equations_nesting : List Equation → ℕ
equations_nesting [] = 0
equations_nesting (e ∷ es) = max (nesting e.right) (equations_nesting es)

abbrev pub theory_nesting : List Block → ℕ
theory_nesting [] = 0
theory_nesting (b ∷ bs) = max (equations_nesting b.equations) (theory_nesting bs)
