-- Whole texts.
use Rattle.std.proofs.Common.{◌≡◌, ℕ, ◌<◌, ◌≤◌, Bool, true, false, ltb, List, [], length, is_ok, Ok, Err, sym, refl, ap, ◌∙◌, arith, Result}
use Rattle.std.proofs.lemmas.Bool.{cond-true, cond-false, ltb-true, ltb-false, lt-ltb, le-ltb}
use Rattle.terms.specs.declared.items.Node.{Node}
use Rattle.stores.specs.Sentences.{Sentence}
use Rattle.stores.specs.Refusals.{Limits}
use Rattle.words.specs.Texts.{Words, end_at, fault_at, words_of}
use Rattle.words.proofs.Exact.{words_are_exact}
use Rattle.grammar.specs.Trees.{Block, sentences}
use Rattle.grammar.specs.Theorems.{Spells, Fits, FourIsFirst}
use Rattle.grammar.specs.Parsing.{Stream, between}
use Rattle.grammar.specs.Texts.{Names, numbering, all_names, text_limit, load_text, Loaded, rejected}
use Rattle.grammar.specs.Texts as texts
use Rattle.grammar.proofs.Complete.{single}
use Rattle.grammar.proofs.Loads.{four}
use Rattle.grammar.proofs.Misplaced.{misplaced}
use Rattle.grammar.proofs.Naming.{names_are_numbered_as_met, kept_exactly_if_a_theory_is_spelt, four_is_at_the_first_misplaced_word}
use Rattle.words.specs.declared.faults.WordRefusal.{WordRefusal}
use Rattle.lookahead.specs.declared.word.Word.{Word}
use Rattle.lookahead.specs.declared.word.Word.TheVariants as w
use Rattle.faults.specs.declared.kinds.GrammarFault.{GrammarFault}
use Rattle.faults.specs.declared.kinds.LoadFault.{LoadFault}
use Rattle.lookahead.specs.declared.parser.Parser.{Parser}
use Rattle.lookahead.specs.Ended.{none, nothing_behind}
use Rattle.lookahead.specs.Ahead.{Grown, cons, size, final, gives, behind_ahead, fault_number}
use Rattle.faults.specs.Grammar as rest
use Rattle.loader.specs.Blocks.{ThroughBlock}
use Rattle.faults.specs.Loads.{number, place}
use Rattle.loader.specs.Loads.{KeepsTheTheorySpelt}
use Rattle.loader.proofs.Turns.{with_names, by_number}
use Rattle.lookahead.proofs.Numbering.{size_words}
use Rattle.loader.proofs.Marks

pub few_words : (ns : Names) (text : List ℕ) → size (numbering ns (words_of text)) ≤ length text
few_words ns text = let z = size_words ns (words_of text) in let k = (words_are_exact text).few in omega arith

-- ---- block after block
module _ (l : Limits) (S : Stream) (F : Names) where
  module _ (s : ℕ) (k : Result Word WordRefusal) (R : Stream) (F₁ : Names) (kept₁ : List Sentence) (x : ThroughBlock l S F [] (cons s k R) F₁ kept₁) where
    pub text_ends : k ≡ Ok w.End → (ns : Names) → F₁ ≡ ns → gives l S F (between []) ≡ texts.kept kept₁ ns
    text_ends e ns n =
        x.comes ∙ ap (λ (k : Result Word WordRefusal). gives l (cons s k R) F₁ (between x.blocks)) e ∙ with_names F₁ (Marks.at_end l s R x.blocks)
        ∙ ap (λ (ss : List Sentence). texts.kept ss F₁) x.says ∙ ap (texts.kept kept₁) n

    pub text_bad : ((n : Node) → k ≡ Ok (w.Node n) → ⊥) → (k ≡ Ok w.UnnumberedNode → ⊥) → (k ≡ Ok w.End → ⊥) → (e : GrammarFault) → rest.number e ≡ fault_number k → rest.place e ≡ s → gives l S F (between []) ≡ rejected (rest.number e) (rest.place e)
    text_bad a u b e c d = x.comes ∙ by_number l _ F₁ _ _ _ e (Marks.no_block l x.blocks s k R a u b) c d

    pub unnumbered : k ≡ Ok w.UnnumberedNode → (e : GrammarFault) → rest.number e ≡ 10 → rest.place e ≡ s → gives l S F (between []) ≡ rejected (rest.number e) (rest.place e)
    unnumbered q e a b = x.comes ∙ ap (λ (k : Result Word WordRefusal). gives l (cons s k R) F₁ (between x.blocks)) q ∙ by_number l _ F₁ _ _ _ e (Marks.no_number l s R x.blocks) a b

-- at the text's end all names are met
no_names : (ns : Names) (W : Words) → none W ≡ true → all_names ns W ≡ ns
unfolding all_names
no_names ns (end_at s) e = refl
no_names ns (fault_at r s) e = absurd (grind arith)
no_names ns (Words.word s t k more) e = absurd (grind arith)

pub all_met : (ns : Names) (p : Parser) → p.word ≡ Ok w.End → final ns p ≡ ns
all_met ns p e = no_names ns (behind_ahead p) (sym (ap (λ (k : Result Word WordRefusal). nothing_behind k (behind_ahead p)) e) ∙ p.ended)

-- ---- the load of a text
pub too_long : (l : Limits) (ns : Names) (text : List ℕ) → text_limit < length text → load_text l ns text ≡ rejected 11 text_limit
unfolding load_text
too_long l ns text h = cond-true _ _ _ (lt-ltb text_limit (length text) h)

pub not_too_long : (l : Limits) (ns : Names) (text : List ℕ) → length text ≤ text_limit → load_text l ns text ≡ gives l (numbering ns (words_of text)) (all_names ns (words_of text)) (between [])
unfolding load_text
not_too_long l ns text h = cond-false _ _ _ (le-ltb text_limit (length text) h)

-- what was there before is the front of what has grown
-- ---- what that says of theories
first : FourIsFirst
first l S p f e = misplaced S p f (four l S p (between []) e)

one_theory : (S : Stream) (bs cs : List Block) → Spells bs S → Spells cs S → bs ≡ cs
one_theory S bs cs x y = single bs cs (sym x.same ∙ y.same)

module _ (l : Limits) (ns : Names) (text : List ℕ) (kept : List Sentence) (ns' : Names) (grown : Grown ns ns') where
  abbrev Theory : Type 0
  Theory = (bs : List Block) × (Fits l bs (numbering ns (words_of text)) × ((kept ≡ sentences bs) × (ns' ≡ all_names ns (words_of text))))

  short : load_text l ns text ≡ texts.kept kept ns' → length text ≤ text_limit
  short e = go (ltb text_limit (length text)) refl
    where
      go : (b : Bool) → ltb text_limit (length text) ≡ b → length text ≤ text_limit
      go true q = let z = too_long l ns text (ltb-true text_limit (length text) q) in let n : ◌≡◌ {A = ℕ} 0 1 = cc in absurd (omega arith)
      go false q = ltb-false text_limit (length text) q

  pub told_all : load_text l ns text ≡ texts.kept kept ns' → KeepsTheTheorySpelt l ns text (Ok tt) kept ns'
  told_all e =
      let h = short e in
      let x : Theory = (kept_exactly_if_a_theory_is_spelt l ns text h kept ns').0 e in
      record {
        accepted_if_a_theory_is_spelt = ((λ o. (h, (x.0, x.1.0))), (λ o. refl));
        one_theory = one_theory (numbering ns (words_of text));
        its_sentences_are_kept = λ o bs s. x.1.1.0 ∙ ap sentences (one_theory (numbering ns (words_of text)) x.0 bs x.1.0.spells s);
        its_names_are_known = λ o. (x.1.1.1, names_are_numbered_as_met ns (words_of text));
        names_are_appended = grown;
        refused_leaves_nothing = λ o. absurd (grind arith);
        four_is_at_the_first_misplaced_word = λ v o. let z : ◌≡◌ {A = ℕ} 0 1 = cc in absurd (omega arith);
      }

  pub told_none : (v : LoadFault) → load_text l ns text ≡ rejected (number v) (place v) → kept ≡ [] → ns' ≡ ns → KeepsTheTheorySpelt l ns text (Err v) kept ns'
  told_none v e a b = record {
    accepted_if_a_theory_is_spelt = ((λ o. absurd (grind arith)), (λ x. never x.0 x.1.0 x.1.1));
    one_theory = one_theory (numbering ns (words_of text));
    its_sentences_are_kept = λ o. absurd (grind arith);
    its_names_are_known = λ o. absurd (grind arith);
    names_are_appended = grown;
    refused_leaves_nothing = λ o. (a, b);
    four_is_at_the_first_misplaced_word = λ u o n. let q : v ≡ u = cc in four_is_at_the_first_misplaced_word first l ns text (place u) (e ∙ ap (λ (v : LoadFault). rejected (number v) (place v)) q ∙ ap (λ (k : ℕ). rejected k (place u)) n);
  }
    where
      never : length text ≤ text_limit → (bs : List Block) → Fits l bs (numbering ns (words_of text)) → is_ok {T = Unit {0}} (Err v) ≡ true
      never h bs f =
          let x = (kept_exactly_if_a_theory_is_spelt l ns text h (sentences bs) (all_names ns (words_of text))).1 (bs, (f, (refl, refl))) in
          let n : ◌≡◌ {A = ℕ} 0 1 = cc in absurd (omega arith)
