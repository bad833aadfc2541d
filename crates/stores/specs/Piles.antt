-- What one store over another means.
use Rattle.std.specs.Prelude.{◌≡◌, ℕ, max, List, Some, None, Option}
use Rattle.terms.specs.declared.items.Node.{Node}
use Rattle.terms.specs.declared.items.Atom.{Atom}
use Rattle.terms.specs.Terms.{Terms}
use Rattle.terms.specs.Maps.{Map, Fitting, Meaning}

-- the first where there is one, else the second
abbrev pub either : Option Terms → Option Terms → Option Terms
either (Some t) o = Some t
either None o = o

abbrev pub piled : Map → Map → Map
piled upper lower n l = either (upper n l) (lower n l)

pub either_fits : (n : Node) (l : List Atom) (a b : Option Terms) (t : Terms) → (a ≡ Some t → Fitting n l t) → (b ≡ Some t → Fitting n l t) → either a b ≡ Some t → Fitting n l t
either_fits n l (Some x) b t f g e = f e
either_fits n l None b t f g e = g e

abbrev pub pile_meaning : Meaning → Meaning → Meaning
pile_meaning upper lower =
    record {
      map = piled upper.map lower.map;
      lawful = λ n l t e. either_fits n l (upper.map n l) (lower.map n l) t (upper.lawful n l t) (lower.lawful n l t) e;
    }

-- the longer of two lengths that may not be there
abbrev pub larger : Option ℕ → Option ℕ → Option ℕ
larger None o = o
larger (Some a) None = Some a
larger (Some a) (Some b) = Some (max a b)
