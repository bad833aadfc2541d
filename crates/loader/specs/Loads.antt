-- What a load of a text comes to.
use Rattle.std.specs.Prelude.{◌≡◌, ℕ, ◌≤◌, true, false, ◌↔◌, List, [], length, is_ok, Ok, Err, Result}
use Rattle.stores.specs.Sentences.{Sentence}
use Rattle.stores.specs.Refusals.{Limits}
use Rattle.words.specs.Texts.{words_of}
use Rattle.grammar.specs.Trees.{Block, sentences}
use Rattle.grammar.specs.Theorems.{Spells, Fits, Misplaced}
use Rattle.grammar.specs.Naming.{AsMet}
use Rattle.grammar.specs.Texts.{Names, numbering, all_names, text_limit, load_text, rejected}
use Rattle.grammar.specs.Texts as texts
use Rattle.faults.specs.declared.kinds.LoadFault.{LoadFault}
use Rattle.faults.specs.Loads.{number, place}
use Rattle.lookahead.specs.Ahead.{Grown}

-- What is kept and the names are those of the text; or the fault is the text's first, nothing is kept, and the names are as before.
abbrev pub Loads : Limits → Names → List ℕ → Result (Unit {0}) LoadFault → List Sentence → Names → Type 0
Loads l ns text (Ok u) kept ns' = load_text l ns text ≡ texts.kept kept ns'
Loads l ns text (Err e) kept ns' = (load_text l ns text ≡ rejected (number e) (place e)) × ((kept ≡ []) × (ns' ≡ ns))

-- The same in the terms of theories: a text is accepted exactly if it has at most 65,536 bytes and spells a theory within the limits. That is the
-- only theory it spells, and what is kept are its sentences, with names numbered as met behind the old ones. A refused text leaves nothing; and
-- refusal 4 is at the first word with which no theory's words go on.
pub record KeepsTheTheorySpelt (l : Limits) (ns : Names) (text : List ℕ) (r : Result (Unit {0}) LoadFault) (kept : List Sentence) (ns' : Names) : Type 0 where
  pub accepted_if_a_theory_is_spelt : (is_ok r ≡ true) ↔ ((length text ≤ text_limit) × ((bs : List Block) × Fits l bs (numbering ns (words_of text))))
  pub one_theory : (bs cs : List Block) → Spells bs (numbering ns (words_of text)) → Spells cs (numbering ns (words_of text)) → bs ≡ cs
  pub its_sentences_are_kept : is_ok r ≡ true → (bs : List Block) → Spells bs (numbering ns (words_of text)) → kept ≡ sentences bs
  pub its_names_are_known : is_ok r ≡ true → (ns' ≡ all_names ns (words_of text)) × AsMet ns (words_of text)
  pub names_are_appended : Grown ns ns'
  pub refused_leaves_nothing : is_ok r ≡ false → (kept ≡ []) × (ns' ≡ ns)
  pub four_is_at_the_first_misplaced_word : (e : LoadFault) → r ≡ Err e → number e ≡ 4 → Misplaced (numbering ns (words_of text)) (place e)
