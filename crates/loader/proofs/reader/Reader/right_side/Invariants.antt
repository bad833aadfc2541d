use Rattle.std.proofs.Common.{◌≡◌, ◌+◌, ◌≤◌, vec_items, vec_len, vec_capacity}
use Rattle.lookahead.specs.Ahead.{names_of, rest, final}
use Rattle.loader.specs.Onward.{Onward}
use Rattle.loader.specs.Readings.{words_left, ThroughSide}
use Rattle.loader.proofs.reader.Reader.right_side.Given as goal

abbrev pub invariant-loop-items : goal.invariant-loop-items
invariant-loop-items l =
    ThroughSide l.round (rest (names_of l.initial.self.names.now) l.initial.self.parser) (final (names_of l.initial.self.names.now) l.initial.self.parser) (vec_items l.initial.items) (rest (names_of l.self.names.now) l.self.parser) (final (names_of l.self.names.now) l.self.parser) (vec_items l.items)
    × Onward l.initial.self l.self
    × (words_left l.self ≤ words_left l.initial.self)
    × (vec_len l.items + words_left l.self ≤ vec_capacity l.items)
    × (vec_len l.items + words_left l.self ≤ vec_len l.initial.items + words_left l.initial.self)
    × (vec_capacity l.items ≡ vec_capacity l.initial.items)

abbrev pub decreases-loop-items : goal.decreases-loop-items
decreases-loop-items l = words_left l.self
