-- How the entries are linked.
use Rattle.std.specs.Prelude.{◌≡◌, ℕ, ◌<◌, ◌≤◌, List, map, length, take, None, Option, nat_eq, slice_index, slice_index_or, vec_items, vec_capacity}
use Rattle.chains.specs.declared.Link.{Link}
use Rattle.chains.specs.declared.Chains.TheInside.{Inside}
use Rattle.chains.specs.Entries.{Entries}
use Rattle.chains.specs.Last.{last_by}

abbrev pub bucket_of : Link → ℕ
bucket_of l = l.bucket

abbrev pub before_of : Link → Option ℕ
before_of l = l.before

-- each bucket's head is its last entry
abbrev pub Heads : List (Option ℕ) → List ℕ → Type 0
Heads hs bs = (b : ℕ) → b < length hs → slice_index_or hs b None ≡ last_by (nat_eq b) bs

-- before each entry stands the last earlier one in its bucket
abbrev pub Befores : List (Option ℕ) → List ℕ → Type 0
Befores fs bs = (i : ℕ) → i < length fs → slice_index_or fs i None ≡ last_by (nat_eq (slice_index bs i)) (take i bs)

abbrev pub Small : ℕ → List ℕ → Type 0
Small w bs = (i : ℕ) → i < length bs → slice_index bs i < w

abbrev pub entries_of : Inside → Entries
entries_of c = record { width = length (vec_items c.heads); room = c.room; buckets = map bucket_of (vec_items c.links) }

pub record Linked (c : Inside) : Type 0 where
  pub room : c.room ≤ vec_capacity c.links
  pub small : Small (length (vec_items c.heads)) (map bucket_of (vec_items c.links))
  pub heads : Heads (vec_items c.heads) (map bucket_of (vec_items c.links))
  pub befores : Befores (map before_of (vec_items c.links)) (map bucket_of (vec_items c.links))
