-- What reading on keeps, and what passing a word comes to.
use Rattle.std.specs.Prelude.{◌≡◌, Ok, Err, Result}
use Rattle.faults.specs.declared.kinds.GrammarFault.{GrammarFault}
use Rattle.faults.specs.Grammar.{number, place}
use Rattle.lookahead.specs.declared.word.Word.{Word}
use Rattle.lookahead.specs.Ahead.{Grown, Moves, names_of, rest, later, final, size, fault_number}
use Rattle.loader.specs.declared.reader.Reader.{Reader}

-- the same names, with more behind them
pub record Onward (old new : Reader) : Type 0 where
  pub same : new.names.ghost_name ≡ old.names.ghost_name
  pub grows : Grown (names_of old.names.now) (names_of new.names.now)

-- The word was ahead, and the reader is behind it; or another word is ahead, and the fault is that word's, where no theory has it.
pub record Passed (k : Word) (x x' : Reader) : Type 0 where
  pub ahead : x.parser.word ≡ Ok k
  pub moves : Moves (later (names_of x.names.now) x.parser) (final (names_of x.names.now) x.parser) (rest (names_of x'.names.now) x'.parser) (final (names_of x'.names.now) x'.parser)
  pub taken : size (rest (names_of x'.names.now) x'.parser) ≡ size (later (names_of x.names.now) x.parser)

pub record NotAhead (k : Word) (x : Reader) (e : GrammarFault) : Type 0 where
  pub other : x.parser.word ≡ Ok k → ⊥
  pub kind : number e ≡ fault_number x.parser.word
  pub at : place e ≡ x.parser.place

abbrev pub Passes : Word → Reader → Result (Unit {0}) GrammarFault → Reader → Type 0
Passes k x (Ok u) x' = Passed k x x'
Passes k x (Err e) x' = NotAhead k x e
