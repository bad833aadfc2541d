-- The count of a text's words.
use Rattle.std.specs.Prelude.{◌+◌, Bool, true, false, Ok, Err, Result}
use Rattle.words.specs.declared.faults.WordFault.{WordFault}
use Rattle.words.specs.declared.tally.Tally.{Tally}
use Rattle.words.specs.Words.{Token}
use Rattle.words.specs.Texts.{Words, end_at, fault_at}

abbrev pub is_end_lem : Token → Bool
is_end_lem (Token.sign x) = false
is_end_lem (Token.node x) = false
is_end_lem (Token.atom x) = false
is_end_lem Token.text_end = true

abbrev pub none : Tally
none = record { words = 0; nodes = 0; atoms = 0 }

abbrev pub counted : Tally → Token → Tally
counted t (Token.sign x) = record { words = t.words + 1; nodes = t.nodes; atoms = t.atoms }
counted t (Token.node x) = record { words = t.words + 1; nodes = t.nodes + 1; atoms = t.atoms }
counted t (Token.atom x) = record { words = t.words + 1; nodes = t.nodes; atoms = t.atoms + 1 }
counted t Token.text_end = t

abbrev pub tallied : Tally → Words → Result Tally WordFault
tallied t (end_at s) = Ok t
tallied t (fault_at r s) = Err (record { refusal = r; place = s })
tallied t (Words.word s k e more) = tallied (counted t k) more
