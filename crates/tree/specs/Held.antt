-- What is kept, and what it means.
use Rattle.std.specs.Prelude.{List}
use Rattle.terms.specs.Maps.{Meaning}
use Rattle.stores.specs.Sentences.{Sentence}
use Rattle.stores.specs.Refusals.{Limits}
use Rattle.kept.specs.Held as kept
use Rattle.kept.specs.Meanings.{meaning_of}
use Rattle.tree.specs.declared.PrefixTree.{PrefixTree}

abbrev pub kept_in : PrefixTree → List Sentence
kept_in t = kept.kept_in t.kept

abbrev pub meaning_in : PrefixTree → Meaning
meaning_in t = meaning_of (kept_in t) t.fit

abbrev pub limits_of : Limits
limits_of = record { sentences = 2048; atoms = 8192; items = 32768 }
