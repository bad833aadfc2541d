-- What is kept, and what it means.
use Rattle.std.specs.Prelude.{List}
use Rattle.terms.specs.Maps.{Meaning}
use Rattle.stores.specs.Sentences.{Sentence}
use Rattle.stores.specs.Refusals.{Limits}
use Rattle.listed.specs.declared.bounded.Bounded.{Bounded}
use Rattle.listed.specs.Bounded as bounded

abbrev pub Addendum : Type 0
Addendum = Bounded 256 1024 2048 255

abbrev pub kept_in : Addendum → List Sentence
kept_in t = bounded.kept_in t

abbrev pub meaning_in : Addendum → Meaning
meaning_in t = bounded.meaning_in t

abbrev pub limits_of : Limits
limits_of = record { sentences = 256; atoms = 1024; items = 2048 }
