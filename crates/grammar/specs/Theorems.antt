-- What is claimed of the grammar.
use Rattle.std.specs.Prelude.{◌≡◌, ℕ, ◌≤◌, Bool, true, false, ◌↔◌, List, [], ◌∷◌, ◌++◌, None, ◌≢◌}
use Rattle.terms.specs.Limits.{nesting_limit}
use Rattle.stores.specs.Sentences.{Sentence}
use Rattle.stores.specs.Refusals.{Limits}
use Rattle.grammar.specs.Trees.{Word, Block, theory_words, theory_nesting, sentences}
use Rattle.grammar.specs.Parsing.{Stream, word, over, broken, between, parse, accepted, refused}
use Rattle.grammar.specs.Loading.{numbered, late_refusal, load}

-- the words of a stream, which may end by a fault
abbrev pub contents : Stream → List Word
contents (word s w S) = w ∷ contents S
contents (over s) = []
contents (broken n p) = []

abbrev pub intact : Stream → Bool
intact (word s w S) = intact S
intact (over s) = true
intact (broken n p) = false

-- the words are whole, and they are the tree's
pub record Spells (bs : List Block) (S : Stream) : Type 0 where
  pub unbroken : intact S ≡ true
  pub same : contents S ≡ theory_words bs

-- What the grammar accepts are exactly the trees' words.
abbrev pub Exact : Type 0
Exact = (S : Stream) (bs : List Block) → (parse S (between []) ≡ accepted bs) ↔ Spells bs S

-- Words spell one tree at most.
abbrev pub Single : Type 0
Single = (bs cs : List Block) → theory_words bs ≡ theory_words cs → bs ≡ cs

-- every name's number is below the limit
abbrev pub Named : List Word → Type 0
Named [] = Unit {0}
Named (w ∷ ws) = (numbered w ≡ true) × Named ws

-- the sentences are taken one by one
abbrev pub Taken : Limits → List Sentence → List Sentence → Type 0
Taken l kept [] = Unit {0}
Taken l kept (x ∷ xs) = (late_refusal l kept x ≡ None) × Taken l (kept ++ x ∷ []) xs

-- the words are the tree's, and the tree is within the limits
pub record Fits (l : Limits) (bs : List Block) (S : Stream) : Type 0 where
  pub spells : Spells bs S
  pub nests : theory_nesting bs ≤ nesting_limit
  pub names : Named (theory_words bs)
  pub keeps : Taken l [] (sentences bs)

-- What is loaded are exactly the trees within the limits.
abbrev pub LoadExact : Type 0
LoadExact = (l : Limits) (S : Stream) (bs : List Block) → (load l S (between []) ≡ accepted bs) ↔ Fits l bs S

-- S is the words ws, and then R
abbrev pub Reads : List Word → Stream → Stream → Type 0
Reads [] S R = S ≡ R
Reads (w ∷ ws) S R = (s : ℕ) × ((S₁ : Stream) × ((S ≡ word s w S₁) × Reads ws S₁ R))

-- a tree's words begin with ws
pub record Begins (ws : List Word) : Type 0 where
  pub more : List Word
  pub tree : List Block
  pub same : theory_words tree ≡ ws ++ more

-- behind the words ws, R starts at place p with a word that no tree's words have there, or ends there too early
abbrev pub Stuck : List Word → Stream → ℕ → Type 0
Stuck ws (word s w R) p = (s ≡ p) × (Begins (ws ++ w ∷ []) → ⊥)
Stuck ws (over s) p = (s ≡ p) × ((bs : List Block) → theory_words bs ≢ ws)
Stuck ws (broken n s) p = ⊥

-- at place p stands the first word with which no tree's words go on
pub record Misplaced (S : Stream) (p : ℕ) : Type 0 where
  pub read : List Word
  pub rest : Stream
  pub reads : Reads read S rest
  pub before : Begins read
  pub stuck : Stuck read rest p

-- a word's fault has a number below 4
abbrev pub WordFaults : Stream → Type 0
WordFaults (word s w S) = WordFaults S
WordFaults (over s) = Unit {0}
WordFaults (broken n p) = n ≤ 3

-- Refusal 4 has its place at the first word that no text has there.
abbrev pub FourIsFirst : Type 0
FourIsFirst = (l : Limits) (S : Stream) (p : ℕ) → WordFaults S → load l S (between []) ≡ refused 4 p → Misplaced S p

-- Without limits the grammar refuses exactly there.
abbrev pub FourExact : Type 0
FourExact = (S : Stream) (p : ℕ) → WordFaults S → (parse S (between []) ≡ refused 4 p) ↔ Misplaced S p
