-- A sentence's record tells its part of the atoms and of the items.
use Rattle.std.specs.Prelude.{◌≡◌, ℕ, ◌+◌, ◌<◌, ◌≤◌, List, map, length, take, drop, slice_index_or, vec_items, vec_capacity}
use Rattle.terms.specs.declared.items.Atom.{Atom}
use Rattle.terms.specs.declared.items.Item.{Item}
use Rattle.stores.specs.Sentences.{Sentence, atoms_in, items_in}
use Rattle.kept.specs.declared.Span.{Span}
use Rattle.kept.specs.declared.Record.{Record}
use Rattle.kept.specs.declared.Kept.TheInside as kept
use Rattle.kept.specs.Contents.{Contents}

abbrev pub part_of : {X : Type 0} → List X → Span → List X
part_of xs s = take s.len (drop s.start xs)

abbrev pub sentence_of : List Atom → List Item → Record → Sentence
sentence_of bs is r = record { node = r.node; left = part_of bs r.left; right = part_of is r.right }

abbrev pub sentences : List Record → List Atom → List Item → List Sentence
sentences rs bs is = map (sentence_of bs is) rs

abbrev pub nowhere : Span
nowhere = record { start = 0; len = 0 }

abbrev pub blank : Record
blank = record { node = record { 0 = 0 }; left = nowhere; right = nowhere }

abbrev pub end_of : Span → ℕ
end_of s = s.start + s.len

-- each record's parts lie within
abbrev pub Inside : List Record → ℕ → ℕ → Type 0
Inside rs a i = (k : ℕ) → k < length rs → (end_of (slice_index_or rs k blank).left ≤ a) × (end_of (slice_index_or rs k blank).right ≤ i)

abbrev pub contents_of : kept.Inside → Contents
contents_of k = record { room = k.room; sentences = sentences (vec_items k.records) (vec_items k.atoms) (vec_items k.items) }

pub record Stored (k : kept.Inside) : Type 0 where
  pub records_room : k.room.sentences ≤ vec_capacity k.records
  pub atoms_room : k.room.atoms ≤ vec_capacity k.atoms
  pub items_room : k.room.items ≤ vec_capacity k.items
  pub inside : Inside (vec_items k.records) (length (vec_items k.atoms)) (length (vec_items k.items))
  pub atoms_sum : atoms_in (contents_of k).sentences ≡ length (vec_items k.atoms)
  pub items_sum : items_in (contents_of k).sentences ≡ length (vec_items k.items)
