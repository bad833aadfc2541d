use Rattle.std.proofs.Common.{◌≡◌, ◌+◌, false, drop}
use Rattle.words.specs.Words.{gap}
use Rattle.words.proofs.scan.gap_len.Given as goal

abbrev pub invariant-loop-i : goal.invariant-loop-i
invariant-loop-i l = l.i + gap l.in_comment (drop l.i l.bytes) ≡ gap false l.bytes
