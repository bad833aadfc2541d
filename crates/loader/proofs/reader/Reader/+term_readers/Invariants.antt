use Rattle.std.proofs.Common.{◌≡◌, ◌+◌, ◌*◌, ◌≤◌, vec_items, vec_len, vec_capacity}
use Rattle.grammar.specs.Parsing.{ready}
use Rattle.lookahead.specs.Ahead.{names_of, rest, final}
use Rattle.loader.specs.Onward.{Onward}
use Rattle.loader.specs.Readings.{words_left, Through}
use Rattle.loader.proofs.reader.Reader.+term_readers.Given as goal

abbrev pub decreases-path : goal.decreases-path
decreases-path l = 8 * l.left

abbrev pub decreases-named_path : goal.decreases-named_path
decreases-named_path l = 8 * l.left + 1

abbrev pub decreases-after_quoted_node : goal.decreases-after_quoted_node
decreases-after_quoted_node l = 8 * l.left + 2

abbrev pub decreases-after_quote : goal.decreases-after_quote
decreases-after_quote l = 8 * l.left + 3

abbrev pub decreases-after_node : goal.decreases-after_node
decreases-after_node l = 8 * l.left + 2

abbrev pub decreases-unopened : goal.decreases-unopened
decreases-unopened l = 8 * l.left + 4

abbrev pub decreases-term : goal.decreases-term
decreases-term l = 8 * l.left + 5

abbrev pub decreases-terms : goal.decreases-terms
decreases-terms l = 8 * l.left + 6

abbrev pub invariant-terms-loop-self : goal.invariant-terms-loop-self
invariant-terms-loop-self l =
    Through l.left ready (rest (names_of l.initial.self.names.now) l.initial.self.parser) (final (names_of l.initial.self.names.now) l.initial.self.parser) (vec_items l.initial.items) (rest (names_of l.self.names.now) l.self.parser) (final (names_of l.self.names.now) l.self.parser) (vec_items l.items)
    × Onward l.initial.self l.self
    × (words_left l.self ≤ words_left l.initial.self)
    × (vec_len l.items + words_left l.self ≤ vec_capacity l.items)
    × (vec_len l.items + words_left l.self ≤ vec_len l.initial.items + words_left l.initial.self)
    × (vec_capacity l.items ≡ vec_capacity l.initial.items)

abbrev pub decreases-terms-loop-self : goal.decreases-terms-loop-self
decreases-terms-loop-self l = words_left l.self
