-- The number and place of a line's fault.
use Rattle.std.specs.Prelude.{ℕ}
use Rattle.words.specs.Words as words
use Rattle.questions.specs.declared.line_fault.LineFault.{LineFault}
use Rattle.questions.specs.declared.line_fault.LineFault.TheVariants as fault

-- a line has at most so many bytes
abbrev pub line_limit : ℕ
line_limit = 1024

abbrev pub number : LineFault → ℕ
number fault.LineTooLong = 11
number (fault.Word e) = words.number e.refusal
number (fault.Misplaced s) = 4
number (fault.Name e) = 10
number fault.PathTooLong = 12

abbrev pub place : LineFault → ℕ
place fault.LineTooLong = line_limit
place (fault.Word e) = e.place
place (fault.Misplaced s) = s
place (fault.Name e) = e.place
place fault.PathTooLong = 0
