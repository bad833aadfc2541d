use Rattle.std.proofs.Common.{◌≤◌, []}
use Rattle.lookahead.specs.Ahead.{names_of, rest, final}
use Rattle.loader.specs.Onward.{Onward}
use Rattle.loader.specs.Readings.{words_left}
use Rattle.loader.specs.Blocks.{ThroughBlock}
use Rattle.loader.proofs.loader.Loader.theory.Given as goal

abbrev pub invariant-loop-reader : goal.invariant-loop-reader
invariant-loop-reader g l =
    ThroughBlock g.K.Keeper.limits (rest (names_of l.initial.reader.names.now) l.initial.reader.parser) (final (names_of l.initial.reader.names.now) l.initial.reader.parser) [] (rest (names_of l.reader.names.now) l.reader.parser) (final (names_of l.reader.names.now) l.reader.parser) (g.K.Keeper.kept l.keeper)
    × Onward l.initial.reader l.reader
    × (words_left l.reader ≤ words_left l.initial.reader)

abbrev pub decreases-loop-reader : goal.decreases-loop-reader
decreases-loop-reader g l = words_left l.reader
