-- How many sentences are open in a phase, at least and at most.
use Rattle.std.specs.Prelude.{ℕ, ◌-◌}
use Rattle.terms.specs.Limits.{open_limit}
use Rattle.engine.specs.declared.table.Phase.{Phase}
use Rattle.engine.specs.declared.table.Phase.TheVariants as phase

abbrev pub least_open : Phase → ℕ
least_open phase.Asks = 0
least_open phase.Works = 1
least_open phase.Has = 0
least_open (phase.Stops s) = 0

-- a question is asked only while one more sentence may be opened
abbrev pub most_open : Phase → ℕ
most_open phase.Asks = open_limit - 1
most_open phase.Works = open_limit
most_open phase.Has = open_limit
most_open (phase.Stops s) = open_limit
