-- Questions: a node and a path, asked within the context of a global node and a global path.
use Rattle.std.specs.Prelude.{List}
use Rattle.terms.specs.declared.items.Node.{Node}
use Rattle.terms.specs.declared.items.Atom.{Atom}

pub record Context : Type 0 where
  pub node : Node
  pub path : List Atom

pub record Question : Type 0 where
  pub node : Node
  pub path : List Atom
  pub context : Context

-- a question that is its own context, as a first question is
abbrev pub own : Node → List Atom → Question
own n p = record { node = n; path = p; context = record { node = n; path = p } }

-- a question in a context that is kept
abbrev pub same : Context → Node → List Atom → Question
same c n p = record { node = n; path = p; context = c }
