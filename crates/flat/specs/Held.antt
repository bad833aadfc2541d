-- What is kept, and what it means.
use Rattle.std.specs.Prelude.{List}
use Rattle.terms.specs.Maps.{Meaning}
use Rattle.stores.specs.Sentences.{Sentence}
use Rattle.stores.specs.Refusals.{Limits}
use Rattle.listed.specs.declared.bounded.Bounded.{Bounded}
use Rattle.listed.specs.Bounded as bounded

abbrev pub FlatList : Type 0
FlatList = Bounded 4096 16384 32768 4095

abbrev pub kept_in : FlatList → List Sentence
kept_in t = bounded.kept_in t

abbrev pub meaning_in : FlatList → Meaning
meaning_in t = bounded.meaning_in t

abbrev pub limits_of : Limits
limits_of = record { sentences = 4096; atoms = 16384; items = 32768 }
