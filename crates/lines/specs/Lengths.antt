-- How long lines can be.
use Rattle.std.specs.Prelude.{◌≡◌, ℕ, ◌≤◌, List, length}
use Rattle.terms.specs.Maps.{Meaning}
use Rattle.names.specs.declared.tables.Names.{Names}
use Rattle.evaluator.specs.declared.evaluator.Evaluator.{Evaluator}
use Rattle.evaluator.specs.Calls.{Act}
use Rattle.evaluator.specs.Holds.{CameBy}
use Rattle.lines.specs.Bytes.{line}
use Rattle.lines.specs.Lines.{line_by}

-- A node of 32 bytes; a path of 32 atoms, each of 32 bytes in quotes; a value of 256 such atoms; and 7 digits:
-- 32 + 2 + (32 * 35 - 1) + 1 + 1 + (1 + 256 * 35) + 2 + 7 + 2
abbrev pub line_limit : ℕ
line_limit = 10127

-- no line of an evaluator that came about by calls is longer
abbrev pub LineWithinLimit : {S : Type 0} → Names → Evaluator S → Type 0
LineWithinLimit {S} names e =
    (means : S → Meaning) (acts : List Act) → CameBy means acts e → (bytes : List ℕ) → line_by names e ≡ line bytes → length bytes ≤ line_limit
