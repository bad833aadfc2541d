-- The bucket of a node and a left path.
use Rattle.std.specs.Prelude.{ℕ, ◌+◌, ◌*◌, ◌/◌, ◌%◌, List, bit_and}
use Rattle.std.specs.List.{fold}
use Rattle.terms.specs.declared.items.Node.{Node}
use Rattle.terms.specs.declared.items.Atom.{Atom}
use Rattle.stores.specs.Sentences.{Sentence}

abbrev pub mix : ℕ → ℕ → ℕ
mix h k = ((h + k + 1) * 2654435769) % 2147483648

abbrev pub mixed : ℕ → List Atom → ℕ
mixed h l = fold (λ k a. mix k a.0) h l

-- the hash, of 31 bits
abbrev pub hash_of_lem : Node → List Atom → ℕ
hash_of_lem n l = mixed (mix 0 n.0) l

-- of its upper 16 bits those that a mask keeps
abbrev pub bucket : ℕ → ℕ → ℕ
bucket mask h = bit_and (h / 32768) mask

abbrev pub bucket_of_lem : ℕ → Sentence → ℕ
bucket_of_lem mask s = bucket mask (hash_of_lem s.node s.left)
