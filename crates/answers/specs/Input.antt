-- Input, line by line.
use Rattle.std.specs.Prelude.{◌≡◌, ℕ, ◌+◌, Bool, cond, not, List, length, take, drop, Some, None, vec_items, Option, ◌==◌, nat_lt}
use Rattle.std.specs.List.{prefix_len}
use Rattle.grammar.specs.Texts.{Names}
use Rattle.questions.specs.Lines.{read_line}
use Rattle.answers.specs.declared.line.Line.{Line}

-- so many bytes of a line are kept: one more than it may have
abbrev pub kept_bytes : ℕ
kept_bytes = 1025

abbrev pub bytes_in : Line → List ℕ
bytes_in l = vec_items l.bytes

abbrev pub no_feed_lem : ℕ → Bool
no_feed_lem b = not (b == 10)

-- the bytes of a block, from a place on, up to the next line feed
abbrev pub to_feed : List ℕ → ℕ → List ℕ
to_feed block from = take (prefix_len no_feed_lem (drop from block)) (drop from block)

-- the place behind that line feed, or none where the block has no more
abbrev pub behind_feed : List ℕ → ℕ → Option ℕ
behind_feed block from =
    cond (nat_lt (prefix_len no_feed_lem (drop from block)) (length (drop from block))) (Some (from + prefix_len no_feed_lem (drop from block) + 1)) None

-- a line reads as its first bytes do
abbrev pub LongLinesNeedNotBeKept : Type 0
LongLinesNeedNotBeKept = (ns : Names) (line : List ℕ) → read_line ns (take kept_bytes line) ≡ read_line ns line
