use Rattle.std.proofs.Common.{◌≡◌, ◌-◌, length}
use Rattle.words.proofs.Counting.{Counting}
use Rattle.words.proofs.tally.tally_words.Given as goal

abbrev pub invariant-loop-word : goal.invariant-loop-word
invariant-loop-word l = (l.reader.text.now ≡ l.text) × Counting l.reader.text.now l.reader.at l.tally

abbrev pub decreases-loop-word : goal.decreases-loop-word
decreases-loop-word l = length l.text - l.reader.at
