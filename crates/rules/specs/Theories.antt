-- Theories written down as lists of sentences, and tables of what their questions come to.
use Rattle.std.specs.Prelude.{◌≡◌, ℕ, zero, suc, true, false, ◌&&◌, List, [], ◌∷◌, map, Some, None, ◌==◌}
use Rattle.terms.specs.declared.items.Node.{Node}
use Rattle.terms.specs.declared.items.Atom.{Atom}
use Rattle.terms.specs.declared.items.Quoting.TheVariants.{Plain, Quoted}
use Rattle.terms.specs.Terms.{Terms}
use Rattle.terms.specs.Maps.{Map, same_atoms}
use Rattle.rules.specs.Questions.{own}
use Rattle.rules.specs.Outcomes.{Outcome}
use Rattle.rules.specs.Evaluation.{outcome}

abbrev pub node : ℕ → Node
node n = record { 0 = n }

abbrev pub atom : ℕ → Atom
atom n = record { 0 = n }

pub record Sentence : Type 0 where
  pub node : Node
  pub left : List Atom
  pub right : Terms

abbrev pub says : Node → List Atom → Terms → Sentence
says n l t = record { node = n; left = l; right = t }

abbrev pub map_of : List Sentence → Map
map_of [] n p = None
map_of (s ∷ more) n p =
    elim (s.node.0 == n.0 && same_atoms s.left p) [ true ↦ Some s.right | false ↦ map_of more n p ]

-- right sides, each form with what stands behind it
abbrev pub end : Terms
end = Terms.done

abbrev pub word : Atom → Terms
word a = Terms.atom a end

abbrev pub words : ℕ → Atom → Terms → Terms
words zero a rest = rest
words (suc k) a rest = Terms.atom a (words k a rest)

-- N
abbrev pub inherits : Node → Terms → Terms
inherits n rest = Terms.node Plain n rest

-- N:<T>
abbrev pub pair : Node → Terms → Terms → Terms
pair n inside rest = Terms.path Plain (Some n) inside rest

-- <T>
abbrev pub local : Terms → Terms → Terms
local inside rest = Terms.path Plain None inside rest

-- "N"
abbrev pub quoted : Node → Terms → Terms
quoted n rest = Terms.node Quoted n rest

-- "N:<T>"
abbrev pub quoted_pair : Node → Terms → Terms → Terms
quoted_pair n inside rest = Terms.path Quoted (Some n) inside rest

-- "<T>"
abbrev pub global : Terms → Terms → Terms
global inside rest = Terms.path Quoted None inside rest

-- a question that is its own context, and what it comes to
pub record Row : Type 0 where
  pub node : Node
  pub path : List Atom
  pub comes_to : Outcome

abbrev pub row : Node → List Atom → Outcome → Row
row n p r = record { node = n; path = p; comes_to = r }

-- over a map, every row is as the definitions have it
abbrev pub ComesTo : Map → List Row → Type 0
ComesTo M rows = map (λ r. outcome M (own r.node r.path)) rows ≡ map (λ r. r.comes_to) rows
