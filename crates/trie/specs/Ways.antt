-- Places of a tree: 0 is the top, and i + 1 is where edge i leads. An edge has the place it comes from and a label.
use Rattle.std.specs.Prelude.{ℕ, suc, ◌+◌, ◌-◌, ◌*◌, ◌/◌, ◌%◌, ◌<◌, ◌≤◌, Bool, false, cond, ◌&&◌, List, ◌∷◌, map, length, get_or, Some, None, Option, ◌==◌, slice_index_or}
use Rattle.std.specs.List.{fold}
use Rattle.terms.specs.declared.items.Node.{Node}
use Rattle.terms.specs.declared.items.Atom.{Atom}
use Rattle.chains.specs.Last.{last_by}
use Rattle.trie.specs.declared.Edge.{Edge}
use Rattle.trie.specs.declared.Place.{Place}

abbrev pub edge_of : Place → Edge
edge_of p = p.edge

abbrev pub mark_of_lem : Place → Option ℕ
mark_of_lem p = p.mark

abbrev pub blank : Edge
blank = record { parent = 0; label = 0 }

abbrev pub edge : ℕ → ℕ → Edge
edge p a = record { parent = p; label = a }

abbrev pub is_edge : ℕ → ℕ → Edge → Bool
is_edge p a e = p == e.parent && a == e.label

-- whether an edge is there and is this one
abbrev pub is_the_edge : Edge → Option Edge → Bool
is_the_edge x None = false
is_the_edge x (Some e) = is_edge x.parent x.label e

-- the bucket of an edge: the upper 13 bits of a hash of 31
abbrev pub bucket : ℕ → ℕ → ℕ
bucket p a = ((((p % 32768) * 65536 + a) * 2654435769) % 2147483648) / 262144

abbrev pub bucket_of_lem : Edge → ℕ
bucket_of_lem e = bucket e.parent e.label

-- where an edge leads
abbrev pub end : Option ℕ → Option ℕ
end None = None
end (Some i) = Some (suc i)

abbrev pub child_of : List Edge → ℕ → ℕ → Option ℕ
child_of es p a = end (last_by (is_edge p a) es)

-- one step down
abbrev pub go : List Edge → Option ℕ → ℕ → Option ℕ
go es None a = None
go es (Some p) a = child_of es p a

abbrev pub walk : List Edge → Option ℕ → List ℕ → Option ℕ
walk es o w = fold (go es) o w

-- the mark at a place; the top has none
abbrev pub mark_at_lem : List (Option ℕ) → Option ℕ → Option ℕ
mark_at_lem ms None = None
mark_at_lem ms (Some p) = cond (p == 0) None (slice_index_or ms (p - 1) None)

-- the mark to which a word leads
abbrev pub lookup : List Edge → List (Option ℕ) → List ℕ → Option ℕ
lookup es ms w = mark_at_lem ms (walk es (Some 0) w)

-- each edge comes from the top or from the end of an earlier one
abbrev pub Rising : List Edge → Type 0
Rising es = (i : ℕ) → i < length es → (get_or es i blank).parent ≤ i

abbrev pub num : Atom → ℕ
num a = a.0

-- the labels from the top to the place of a node and a left path
abbrev pub word_of : Node → List Atom → List ℕ
word_of n l = n.0 ∷ map num l
