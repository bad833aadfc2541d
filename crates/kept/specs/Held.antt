-- What is kept, and how much can be.
use Rattle.std.specs.Prelude.{ℕ, ◌+◌, min, Bool, false, ◌||◌, List, [], length, Some, None, Option, nat_lt}
use Rattle.terms.specs.declared.items.Node.{Node}
use Rattle.terms.specs.declared.items.Atom.{Atom}
use Rattle.terms.specs.declared.items.Item.{Item}
use Rattle.stores.specs.Sentences.{Sentence, is_pair, atoms_in, items_in}
use Rattle.stores.specs.Refusals.{Limits}
use Rattle.kept.specs.declared.Kept.{Kept}
use Rattle.kept.specs.declared.Room.{Room}

-- the sentences kept, in the order of their adding
abbrev pub kept_in : Kept → List Sentence
kept_in k = k.sentences

-- for how much there is memory
abbrev pub room_in : Kept → Room
room_in k = k.room

abbrev pub limits_of : Room → Limits
limits_of r = record { sentences = r.sentences; atoms = r.atoms; items = r.items }

abbrev pub smaller : Room → Room → Room
smaller a b = record { sentences = min a.sentences b.sentences; atoms = min a.atoms b.atoms; items = min a.items b.items }

-- whether one sentence more, of so many atoms and items, passes one of the limits
abbrev pub passes : Room → List Sentence → ℕ → ℕ → Bool
passes k ss a i = nat_lt k.sentences (length ss + 1) || (nat_lt k.atoms (atoms_in ss + a) || nat_lt k.items (items_in ss + i))

-- whether the sentence of a number is there and is of a pair
abbrev pub of_pair : Option Sentence → Node → List Atom → Bool
of_pair None n l = false
of_pair (Some s) n l = is_pair n l s

-- the items of a sentence that may not be there
abbrev pub right_of : Option Sentence → List Item
right_of None = []
right_of (Some s) = s.right
