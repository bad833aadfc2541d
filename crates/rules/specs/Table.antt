-- The table of the questions that each term asks, and the derivations that go by it. It is an inner device: it derives what Keller's
-- rules derive, in the same uses of Def.
use Rattle.std.specs.Prelude.{ℕ, suc, ◌+◌, ◌≤◌, max, List, [], ◌∷◌, ◌++◌, length, drop, Some, None, Option}
use Rattle.terms.specs.declared.items.Node.{Node}
use Rattle.terms.specs.declared.items.Atom.{Atom}
use Rattle.terms.specs.declared.items.Quoting.{Quoting}
use Rattle.terms.specs.declared.items.Quoting.TheVariants.{Plain, Quoted}
use Rattle.terms.specs.Limits.{path_limit, open_limit, value_limit}
use Rattle.terms.specs.Terms.{Terms}
use Rattle.terms.specs.Maps.{Map, Longest}
use Rattle.rules.specs.Questions.{Question, own, same}

-- Where a right side is worked: at its question, with the extension that its left path, of k atoms, leaves.
pub record Site : Type 0 where
  pub at : Question
  pub extension : List Atom

abbrev pub site : Question → ℕ → Site
site q k = record { at = q; extension = drop k q.path }

-- The questions that terms ask, at a site for N:<p> in the context G:<P> with the extension e:
--   N'       asks N':<p>    in the same context
--   "N'"     asks N':<P e>  as its own context
abbrev pub node_asks_lem : Site → Quoting → Node → Question
node_asks_lem s Plain n = same s.at.context n s.at.path
node_asks_lem s Quoted n = own n (s.at.context.path ++ s.extension)

-- and where T has the value v:
--   N':<T>   asks N':<v e>  in the same context
--   <T>      asks N:<v e>   in the same context
--   "N':<T>" asks N':<v e>  as its own context
--   "<T>"    asks G:<v e>   as its own context
abbrev pub path_asks_lem : Site → Quoting → Option Node → List Atom → Question
path_asks_lem s Plain (Some n) v = same s.at.context n (v ++ s.extension)
path_asks_lem s Plain None v = same s.at.context s.at.node (v ++ s.extension)
path_asks_lem s Quoted (Some n) v = own n (v ++ s.extension)
path_asks_lem s Quoted None v = own s.at.context.node (v ++ s.extension)

-- Derivations by the table. `Answers M q v`: the question q has the value v. `Works M s t v`: worked at s, the terms t have the value v.
mutual
  pub data Answers (M : Map) : Question → List Atom → Type 0 where
    def : {q : Question} {v : List Atom} (k : ℕ) (t : Terms)
        → Longest M q.node q.path k t → Works M (site q k) t v → Answers M q v

  pub data Works (M : Map) : Site → Terms → List Atom → Type 0 where
    end : {s : Site} → Works M s Terms.done []
    atom : {s : Site} {a : Atom} {rest : Terms} {v : List Atom} → Works M s rest v → Works M s (Terms.atom a rest) (a ∷ v)
    node : {s : Site} {q : Quoting} {n : Node} {rest : Terms} {v w : List Atom}
        → Answers M (node_asks_lem s q n) v → Works M s rest w → Works M s (Terms.node q n rest) (v ++ w)
    path : {s : Site} {q : Quoting} {n : Option Node} {inside rest : Terms} {u v w : List Atom}
        → Works M s inside u → Answers M (path_asks_lem s q n u) v → Works M s rest w
        → Works M s (Terms.path q n inside rest) (v ++ w)

-- how often a derivation uses Def
abbrev mutual
  pub uses : {M : Map} {q : Question} {v : List Atom} → Answers M q v → ℕ
  uses (def k t l d) = suc (uses_in d)

  pub uses_in : {M : Map} {s : Site} {t : Terms} {v : List Atom} → Works M s t v → ℕ
  uses_in end = 0
  uses_in (atom d) = uses_in d
  uses_in (node d e) = uses d + uses_in e
  uses_in (path d e f) = uses_in d + (uses e + uses_in f)

-- the most uses of Def on one branch
abbrev mutual
  pub deepest : {M : Map} {q : Question} {v : List Atom} → Answers M q v → ℕ
  deepest (def k t l d) = suc (deepest_in d)

  pub deepest_in : {M : Map} {s : Site} {t : Terms} {v : List Atom} → Works M s t v → ℕ
  deepest_in end = 0
  deepest_in (atom d) = deepest_in d
  deepest_in (node d e) = max (deepest d) (deepest_in e)
  deepest_in (path d e f) = max (deepest_in d) (max (deepest e) (deepest_in f))

-- no question and no inside of a path has more atoms than a path may have
abbrev mutual
  pub Narrow : {M : Map} {q : Question} {v : List Atom} → Answers M q v → Type 0
  Narrow {q = q} (def k t l d) = (length q.path ≤ path_limit) × NarrowIn d

  pub NarrowIn : {M : Map} {s : Site} {t : Terms} {v : List Atom} → Works M s t v → Type 0
  NarrowIn end = Unit {0}
  NarrowIn (atom d) = NarrowIn d
  NarrowIn (node d e) = Narrow d × NarrowIn e
  NarrowIn (path {u = u} d e f) = (length u ≤ path_limit) × NarrowIn d × Narrow e × NarrowIn f

-- a derivation that keeps the limits
pub record Fits {M : Map} {q : Question} {v : List Atom} (d : Answers M q v) : Type 0 where
  pub narrow : Narrow d
  pub branches : deepest d ≤ open_limit
  pub short : length v ≤ value_limit
