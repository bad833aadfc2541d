-- The look-up of the longest left path with which a path begins.
use Rattle.std.specs.Prelude.{◌≡◌, ℕ, suc, ◌≤◌, ◌↔◌, List, [], ◌∷◌, length, take, Some, None, Option}
use Rattle.terms.specs.declared.items.Node.{Node}
use Rattle.terms.specs.declared.items.Atom.{Atom}
use Rattle.terms.specs.Terms.{Terms}
use Rattle.terms.specs.Maps.{Map, Longest}

-- the length of the left path that is found, and its right side
pub data Look : Type 0 where
  found : ℕ → Terms → Look
  nothing : Look

abbrev pub here : Option Terms → Look
here (Some t) = found 0 t
here None = nothing

abbrev pub further : Look → Option Terms → Look
further (found k t) o = found (suc k) t
further nothing o = here o

-- over the right sides of one node, by left path
unfoldable pub look_up : (List Atom → Option Terms) → List Atom → Look
look_up L [] = here (L [])
look_up L (a ∷ p) = further (look_up (λ l. L (a ∷ l)) p) (L [])

-- the length alone
abbrev pub length_found : Look → Option ℕ
length_found (found k t) = Some k
length_found nothing = None

abbrev pub LookUpFindsTheLongest : Type 0
LookUpFindsTheLongest = (M : Map) (n : Node) (p : List Atom)
    → ((k : ℕ) (t : Terms) → (look_up (M n) p ≡ found k t) ↔ Longest M n p k t)
    × ((look_up (M n) p ≡ nothing) ↔ ((k : ℕ) → k ≤ length p → M n (take k p) ≡ None))
