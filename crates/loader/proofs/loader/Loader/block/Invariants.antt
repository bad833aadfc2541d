use Rattle.std.proofs.Common.{◌≤◌, vec_items}
use Rattle.grammar.specs.Parsing.{body}
use Rattle.lookahead.specs.Ahead.{names_of, rest, final}
use Rattle.loader.specs.Onward.{Onward}
use Rattle.loader.specs.Readings.{words_left}
use Rattle.loader.specs.Blocks.{Reaches}
use Rattle.loader.proofs.loader.Loader.block.Given as goal

abbrev pub invariant-loop-next : goal.invariant-loop-next
invariant-loop-next g l =
    Reaches g.K.Keeper.limits l.node (rest (names_of l.initial.reader.names.now) l.initial.reader.parser) (final (names_of l.initial.reader.names.now) l.initial.reader.parser) body (g.K.Keeper.kept l.initial.keeper) l.next (rest (names_of l.reader.names.now) l.reader.parser) (final (names_of l.reader.names.now) l.reader.parser) (vec_items l.self.left) (g.K.Keeper.kept l.keeper)
    × Onward l.initial.reader l.reader
    × (words_left l.reader ≤ words_left l.initial.reader)

abbrev pub decreases-loop-next : goal.decreases-loop-next
decreases-loop-next g l = words_left l.reader
