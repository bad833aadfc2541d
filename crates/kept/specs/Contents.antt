-- What is kept, as callers see it.
use Rattle.std.specs.Prelude.{List}
use Rattle.stores.specs.Sentences.{Sentence}
use Rattle.kept.specs.declared.Room.{Room}

pub record Contents : Type 0 where
  -- for how much there is memory
  pub room : Room
  -- in the order of their adding
  pub sentences : List Sentence

-- the same memory with other sentences
abbrev pub with_sentences : Contents → List Sentence → Contents
with_sentences k ss = record { room = k.room; sentences = ss }
