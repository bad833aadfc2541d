use Rattle.std.proofs.Common.{◌≡◌, ℕ, ◌+◌, ◌≤◌, true, [], vec_items, vec_len, vec_capacity}
use Rattle.terms.specs.Maps.{every, atom_in_range}
use Rattle.stores.specs.Refusals.{Limits}
use Rattle.grammar.specs.Parsing.{lefting, Front}
use Rattle.lookahead.specs.Ahead.{names_of, rest, final, gives}
use Rattle.loader.specs.Onward.{Onward}
use Rattle.loader.specs.Readings.{words_left}
use Rattle.loader.proofs.reader.Reader.left_path.Given as goal

abbrev pub invariant-loop-self : goal.invariant-loop-self
invariant-loop-self l =
    ((m : Limits) (f : Front) (s : ℕ) → gives m (rest (names_of l.initial.self.names.now) l.initial.self.parser) (final (names_of l.initial.self.names.now) l.initial.self.parser) (lefting f s []) ≡ gives m (rest (names_of l.self.names.now) l.self.parser) (final (names_of l.self.names.now) l.self.parser) (lefting f s (vec_items l.left)))
    × (every atom_in_range (vec_items l.left) ≡ true)
    × Onward l.initial.self l.self
    × (words_left l.self ≤ words_left l.initial.self)
    × (vec_len l.left + words_left l.self ≤ vec_capacity l.left)
    × (vec_capacity l.left ≡ vec_capacity l.initial.left)

abbrev pub decreases-loop-self : goal.decreases-loop-self
decreases-loop-self l = words_left l.self
