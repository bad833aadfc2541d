-- The limits, each in one place.
use Rattle.std.specs.Prelude.{ℕ}

-- nodes and atoms are numbered from 0 to below these
abbrev pub node_limit : ℕ
node_limit = 1024

abbrev pub atom_limit : ℕ
atom_limit = 4096

-- the atoms of a path
abbrev pub path_limit : ℕ
path_limit = 32

-- the items of a right side
abbrev pub item_limit : ℕ
item_limit = 64

-- the paths that stand one in another, the outermost counted
abbrev pub nesting_limit : ℕ
nesting_limit = 4

-- the sentences that are open at a time
abbrev pub open_limit : ℕ
open_limit = 96

-- the atoms of a value
abbrev pub value_limit : ℕ
value_limit = 256

-- the steps that are granted to a question
abbrev pub step_limit : ℕ
step_limit = 1000000
