-- What is told of a text.
use Rattle.std.specs.Prelude.{ℕ, cond, List, length, Ok, Err, Result, nat_lt}
use Rattle.words.specs.declared.faults.WordFault.{WordFault}
use Rattle.words.specs.declared.tally.Tally.{Tally}
use Rattle.words.specs.Words as words
use Rattle.words.specs.Texts.{words_of}
use Rattle.words.specs.Tallies.{none, tallied}
use Rattle.forms.specs.declared.texts.TextFault.{TextFault}
use Rattle.forms.specs.declared.texts.TextFault.TheVariants.{TooLong, Word}

-- a text has at most so many bytes
abbrev pub text_limit : ℕ
text_limit = 65536

abbrev pub number : TextFault → ℕ
number TooLong = 11
number (Word e) = words.number e.refusal

abbrev pub place : TextFault → ℕ
place TooLong = text_limit
place (Word e) = e.place

abbrev pub carried : Result Tally WordFault → Result Tally TextFault
carried (Ok t) = Ok t
carried (Err e) = Err (Word e)

abbrev pub tally_of : List ℕ → Result Tally TextFault
tally_of text = cond (nat_lt text_limit (length text)) (Err TooLong) (carried (tallied none (words_of text)))
