-- What a keeper means by the sentences kept.
use Rattle.std.specs.Prelude.{◌≡◌, true, List}
use Rattle.terms.specs.Maps.{Meaning, every}
use Rattle.stores.specs.Sentences.{Sentence, map_of}
use Rattle.stores.specs.Refusals.{fits}
use Rattle.stores.proofs.Fits.{lawful_of}

abbrev pub meaning_of : (ss : List Sentence) → every fits ss ≡ true → Meaning
meaning_of ss h = record { map = map_of ss; lawful = lawful_of ss h }
