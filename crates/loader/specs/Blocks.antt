-- What the readers of blocks come to.
use Rattle.std.specs.Prelude.{◌≡◌, ℕ, Bool, true, List, [], Some, None, Ok, Err, Option, Result}
use Rattle.terms.specs.declared.items.Node.{Node}
use Rattle.terms.specs.declared.items.Atom.{Atom}
use Rattle.terms.specs.Terms.{done}
use Rattle.terms.specs.Maps.{every, atom_in_range}
use Rattle.stores.specs.Sentences.{Sentence}
use Rattle.stores.specs.Refusals.{Limits}
use Rattle.grammar.specs.Trees.{Block, sentences}
use Rattle.grammar.specs.Parsing.{Stream, State, between, body, begun, side, ready, outside, Front, Head, whole, front_sentences}
use Rattle.grammar.specs.Texts.{Names, Loaded, rejected}
use Rattle.grammar.specs.Texts as texts
use Rattle.loader.specs.declared.ends.Due.{Due}
use Rattle.loader.specs.declared.ends.Due.TheVariants.{Equation, RightSide}
use Rattle.faults.specs.declared.kinds.GrammarFault.{GrammarFault}
use Rattle.loader.specs.declared.reader.Reader.{Reader}
use Rattle.faults.specs.Grammar.{number, place}
use Rattle.lookahead.specs.Ahead.{Grown, names_of, rest, final, gives}

-- a block's node, and the sentences that are kept
pub record IsFront (n : Node) (kept : List Sentence) (f : Front) : Type 0 where
  pub named : f.name ≡ n
  pub says : front_sentences f ≡ kept

abbrev pub head : ℕ → List Atom → Front → Head
head p left f = record { front = f; place = p; left = left }

-- where a load stands: in the block, by what is due; or behind its full stop
abbrev pub state_at : Option Due → List Atom → Front → State
state_at (Some Equation) left f = body f
state_at (Some (RightSide p)) left f = begun (head p left f)
state_at None left f = between (whole f)

-- a right side, before its first term
abbrev pub at_side : Bool → ℕ → List Atom → Front → State
at_side r p left f = side (head p left f) r ready outside done

-- The load goes on from a state, with the sentences that are kept by then.
pub record Reached (l : Limits) (n : Node) (S : Stream) (F : Names) (σ : State) (due : Option Due) (S' : Stream) (F' : Names) (left : List Atom) (kept : List Sentence) : Type 0 where
  pub front : Front
  pub is : IsFront n kept front
  pub comes : gives l S F σ ≡ gives l S' F' (state_at due left front)

pub record Reaches (l : Limits) (n : Node) (S : Stream) (F : Names) (σ : Front → State) (kept : List Sentence) (due : Option Due) (S' : Stream) (F' : Names) (left : List Atom) (kept' : List Sentence) : Type 0 where
  pub in_range : every atom_in_range left ≡ true
  pub comes : (f : Front) → IsFront n kept f → Reached l n S F (σ f) due S' F' left kept'

abbrev pub GoesOn : Limits → Node → (Front → State) → Stream → Names → List Sentence → Result (Option Due) GrammarFault → Stream → Names → List Atom → List Sentence → Type 0
GoesOn l n σ S F kept (Ok due) S' F' left kept' = Reaches l n S F σ kept due S' F' left kept'
GoesOn l n σ S F kept (Err e) S' F' left kept' = (f : Front) → IsFront n kept f → gives l S F (σ f) ≡ rejected (number e) (place e)

-- A block is read.
pub record ThroughBlock (l : Limits) (S : Stream) (F : Names) (bs : List Block) (S' : Stream) (F' : Names) (kept : List Sentence) : Type 0 where
  pub blocks : List Block
  pub says : sentences blocks ≡ kept
  pub comes : gives l S F (between bs) ≡ gives l S' F' (between blocks)

abbrev pub GoesBlock : Limits → Stream → Names → List Sentence → Result (Unit {0}) GrammarFault → Stream → Names → List Sentence → Type 0
GoesBlock l S F kept (Ok u) S' F' kept' = (bs : List Block) → sentences bs ≡ kept → ThroughBlock l S F bs S' F' kept'
GoesBlock l S F kept (Err e) S' F' kept' = (bs : List Block) → sentences bs ≡ kept → gives l S F (between bs) ≡ rejected (number e) (place e)

-- A text is read to its end, from no sentences on.
abbrev pub GoesText : Loaded → Result (Unit {0}) GrammarFault → Names → List Sentence → Type 0
GoesText o (Ok u) ns kept = o ≡ texts.kept kept ns
GoesText o (Err e) ns kept = o ≡ rejected (number e) (place e)

-- what is left: names appended; or, of a text that is refused, nothing
abbrev pub Leaves : Result (Unit {0}) GrammarFault → Names → Names → List Sentence → Type 0
Leaves (Ok u) ns ns' kept = Grown ns ns'
Leaves (Err e) ns ns' kept = (kept ≡ []) × (ns' ≡ ns)

-- The same of a reader, before and after.
abbrev pub ReadsOn : Limits → Node → (Front → State) → Reader → List Sentence → Result (Option Due) GrammarFault → Reader → List Atom → List Sentence → Type 0
ReadsOn l n σ x kept r x' left kept' = GoesOn l n σ (rest (names_of x.names.now) x.parser) (final (names_of x.names.now) x.parser) kept r (rest (names_of x'.names.now) x'.parser) (final (names_of x'.names.now) x'.parser) left kept'

abbrev pub ReadsBlock : Limits → Reader → List Sentence → Result (Unit {0}) GrammarFault → Reader → List Sentence → Type 0
ReadsBlock l x kept r x' kept' = GoesBlock l (rest (names_of x.names.now) x.parser) (final (names_of x.names.now) x.parser) kept r (rest (names_of x'.names.now) x'.parser) (final (names_of x'.names.now) x'.parser) kept'
