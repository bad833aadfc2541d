-- What a parser keeps: the text's end has no words behind it, and numbers are in range.
use Rattle.std.specs.Prelude.{Bool, true, false, Ok, Err, Result}
use Rattle.words.specs.Texts.{Words, end_at, fault_at}
use Rattle.terms.specs.Maps.{node_in_range, atom_in_range}
use Rattle.words.specs.declared.faults.WordRefusal.{WordRefusal}
use Rattle.lookahead.specs.declared.word.Word.{Word}
use Rattle.lookahead.specs.declared.word.Word.TheVariants as w

abbrev pub none : Words → Bool
none (end_at s) = true
none (fault_at r s) = false
none (Words.word s t e more) = false

abbrev pub nothing_behind : Result Word WordRefusal → Words → Bool
nothing_behind (Ok (w.Atom a)) W = true
nothing_behind (Ok w.UnnumberedAtom) W = true
nothing_behind (Ok (w.Node n)) W = true
nothing_behind (Ok w.UnnumberedNode) W = true
nothing_behind (Ok w.Less) W = true
nothing_behind (Ok w.Greater) W = true
nothing_behind (Ok w.Quote) W = true
nothing_behind (Ok w.Colon) W = true
nothing_behind (Ok w.Equals) W = true
nothing_behind (Ok w.Stop) W = true
nothing_behind (Ok w.Open) W = true
nothing_behind (Ok w.Close) W = true
nothing_behind (Ok w.Stray) W = true
nothing_behind (Ok w.End) W = none W
nothing_behind (Err r) W = true

-- The number of the word ahead, where it has one, is one that atoms or nodes have.
abbrev pub number_in_range : Result Word WordRefusal → Bool
number_in_range (Ok (w.Atom a)) = atom_in_range a
number_in_range (Ok w.UnnumberedAtom) = true
number_in_range (Ok (w.Node n)) = node_in_range n
number_in_range (Ok w.UnnumberedNode) = true
number_in_range (Ok w.Less) = true
number_in_range (Ok w.Greater) = true
number_in_range (Ok w.Quote) = true
number_in_range (Ok w.Colon) = true
number_in_range (Ok w.Equals) = true
number_in_range (Ok w.Stop) = true
number_in_range (Ok w.Open) = true
number_in_range (Ok w.Close) = true
number_in_range (Ok w.Stray) = true
number_in_range (Ok w.End) = true
number_in_range (Err r) = true
