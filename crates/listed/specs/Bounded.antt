-- What a list with limits keeps, and what it means.
use Rattle.std.specs.Prelude.{ℕ, List}
use Rattle.terms.specs.Maps.{Meaning}
use Rattle.stores.specs.Sentences.{Sentence}
use Rattle.stores.specs.Refusals.{Limits}
use Rattle.listed.specs.declared.bounded.Bounded.{Bounded}
use Rattle.listed.specs.Held.{held_in, listed_meaning}

abbrev pub kept_in : {s a i m : ℕ} → Bounded s a i m → List Sentence
kept_in t = held_in t.list

abbrev pub meaning_in : {s a i m : ℕ} → Bounded s a i m → Meaning
meaning_in t = listed_meaning t.list

abbrev pub limits_of : ℕ → ℕ → ℕ → Limits
limits_of s a i = record { sentences = s; atoms = a; items = i }
