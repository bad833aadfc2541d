-- Names have their numbers in the table after the text.
use Rattle.std.proofs.Common.{◌≡◌, ℕ, zero, suc, ◌≤◌, Bool, true, false, cond, ◌&&◌, eqb, ltb, List, [], ◌∷◌, length, Some, sym, refl, ap, ◌∙◌, arith}
use Rattle.std.specs.Str.{bytes_eq}
use Rattle.std.proofs.lemmas.Bool.{cond-false, le-ltb, eqb-true}
use Rattle.stores.specs.Sentences.{Sentence}
use Rattle.stores.specs.Refusals.{Limits}
use Rattle.names.specs.Numbers.{number, met, name_at}
use Rattle.words.specs.declared.faults.WordRefusal.{WordRefusal}
use Rattle.words.specs.declared.faults.WordRefusal.TheVariants.{BadByte, OpenQuote, NameLength}
use Rattle.words.specs.Words as words
use Rattle.words.specs.Words.{Token}
use Rattle.words.specs.Texts.{Words, end_at, fault_at, words_of}
use Rattle.grammar.specs.Trees.{sentences, Block}
use Rattle.grammar.specs.Parsing.{between, Outcome, accepted, refused}
use Rattle.grammar.specs.Loading.{load}
use Rattle.grammar.specs.Texts.{Names, token_word, token_names, numbering, all_names, text_limit, load_text, loaded_by, kept, rejected}
use Rattle.grammar.specs.Theorems.{Fits, WordFaults, FourIsFirst}
use Rattle.grammar.specs.Naming.{IsWord, Numbers, more, ended, fault, Extends, NamesAreNumberedAsMet, KeptExactlyIfATheoryIsSpelt, FourIsAtTheFirstMisplacedWord}
use Rattle.grammar.proofs.Loads.{load_fits, fits_load}

met_keeps_at : (y x z : List ℕ) (ys : List (List ℕ)) → ((j : ℕ) → name_at ys j ≡ Some z → name_at (met ys x) j ≡ Some z) → (c : Bool) (k : ℕ) → name_at (y ∷ ys) k ≡ Some z → name_at (cond c (y ∷ ys) (y ∷ met ys x)) k ≡ Some z
met_keeps_at y x z ys ih true k e = e
met_keeps_at y x z ys ih false zero e = e
met_keeps_at y x z ys ih false (suc k) e = ih k e

met_keeps : (ys : List (List ℕ)) (x : List ℕ) → Extends ys (met ys x)
met_keeps [] x k z e = absurd (grind arith)
met_keeps (y ∷ ys) x k z e = met_keeps_at y x z ys (λ j. met_keeps ys x j z) (bytes_eq y x) k e

both : (a b : Bool) → a && b ≡ true → (a ≡ true) × (b ≡ true)
both true true e = (refl, refl)
both true false e = absurd (grind arith)
both false b e = absurd (grind arith)

same_bytes : (y x : List ℕ) → bytes_eq y x ≡ true → y ≡ x
same_bytes [] [] e = refl
same_bytes [] (x ∷ xs) e = absurd (grind arith)
same_bytes (y ∷ ys) [] e = absurd (grind arith)
same_bytes (y ∷ ys) (x ∷ xs) e = let p = both (eqb y x) (bytes_eq ys xs) e in let h = eqb-true y x p.0 in let t = same_bytes ys xs p.1 in cc

met_has_at : (y x : List ℕ) (ys : List (List ℕ)) → name_at (met ys x) (number ys x) ≡ Some x → (c : Bool) → bytes_eq y x ≡ c → name_at (cond c (y ∷ ys) (y ∷ met ys x)) (cond c 0 (suc (number ys x))) ≡ Some x
met_has_at y x ys ih true e = ap Some (same_bytes y x e)
met_has_at y x ys ih false e = ih

met_has : (ys : List (List ℕ)) (x : List ℕ) → name_at (met ys x) (number ys x) ≡ Some x
met_has [] x = refl
met_has (y ∷ ys) x = met_has_at y x ys (met_has ys x) (bytes_eq y x) refl

-- one table has what another has
record Grows (ns ms : Names) : Type 0 where
  nodes : Extends ns.nodes ms.nodes
  atoms : Extends ns.atoms ms.atoms

grows_same : (ns : Names) → Grows ns ns
grows_same ns = record { nodes = λ k x e. e; atoms = λ k x e. e }

grows_on : (ns ms ls : Names) → Grows ns ms → Grows ms ls → Grows ns ls
grows_on ns ms ls a b = record { nodes = λ k x e. b.nodes k x (a.nodes k x e); atoms = λ k x e. b.atoms k x (a.atoms k x e) }

grows_by : (ns : Names) (t : Token) → Grows ns (token_names ns t)
grows_by ns (Token.sign x) = grows_same ns
grows_by ns (Token.node x) = record { nodes = met_keeps ns.nodes x; atoms = λ k z e. e }
grows_by ns (Token.atom x) = record { nodes = λ k z e. e; atoms = met_keeps ns.atoms x }
grows_by ns Token.text_end = grows_same ns

grows : (r : Words) (ns : Names) → Grows ns (all_names ns r)
unfolding all_names
grows (Words.word s t e r) ns = grows_on ns (token_names ns t) _ (grows_by ns t) (grows r (token_names ns t))
grows (end_at s) ns = grows_same ns
grows (fault_at r s) ns = grows_same ns

word_is : (ns ms : Names) (t : Token) → Grows (token_names ns t) ms → IsWord ms t (token_word ns t)
word_is ns ms (Token.sign x) g = refl
word_is ns ms (Token.node x) g = (number ns.nodes x, (refl, g.nodes (number ns.nodes x) x (met_has ns.nodes x)))
word_is ns ms (Token.atom x) g = (number ns.atoms x, (refl, g.atoms (number ns.atoms x) x (met_has ns.atoms x)))
word_is ns ms Token.text_end g = refl

numbers : (r : Words) (ns : Names) → Numbers (all_names ns r) r (numbering ns r)
unfolding all_names numbering
numbers (Words.word s t e r) ns = more s t e (token_word ns t) r (numbering (token_names ns t) r) (word_is ns (all_names (token_names ns t) r) t (grows r (token_names ns t))) (numbers r (token_names ns t))
numbers (end_at s) ns = ended s
numbers (fault_at r s) ns = fault r s

pub names_are_numbered_as_met : NamesAreNumberedAsMet
names_are_numbered_as_met ns r = let g = grows r ns in record { numbers = numbers r ns; nodes = g.nodes; atoms = g.atoms }

-- whole texts
abbrev Tree : Limits → Names → List ℕ → List Sentence → Names → Type 0
Tree l ns text ss ns' = (bs : List Block) × (Fits l bs (numbering ns (words_of text)) × ((ss ≡ sentences bs) × (ns' ≡ all_names ns (words_of text))))

kept_by : (l : Limits) (ns : Names) (text : List ℕ) (ss : List Sentence) (ns' : Names) (o : Outcome) → load l (numbering ns (words_of text)) (between []) ≡ o → loaded_by o (all_names ns (words_of text)) ≡ kept ss ns' → Tree l ns text ss ns'
kept_by l ns text ss ns' (accepted bs) x e = (bs, (load_fits l _ bs x, (cc, cc)))
kept_by l ns text ss ns' (refused n p) x e = absurd (grind arith)

short : (l : Limits) (ns : Names) (text : List ℕ) → length text ≤ text_limit → load_text l ns text ≡ loaded_by (load l (numbering ns (words_of text)) (between [])) (all_names ns (words_of text))
unfolding load_text
short l ns text h = cond-false _ _ _ (le-ltb text_limit (length text) h)

text_kept : (l : Limits) (ns : Names) (text : List ℕ) → length text ≤ text_limit → (ss : List Sentence) (ns' : Names) → load_text l ns text ≡ kept ss ns' → Tree l ns text ss ns'
text_kept l ns text h ss ns' e = kept_by l ns text ss ns' (load l (numbering ns (words_of text)) (between [])) refl (sym (short l ns text h) ∙ e)

tree_kept : (l : Limits) (ns : Names) (text : List ℕ) → length text ≤ text_limit → (ss : List Sentence) (ns' : Names) → Tree l ns text ss ns' → load_text l ns text ≡ kept ss ns'
tree_kept l ns text h ss ns' x =
    let o = fits_load l (numbering ns (words_of text)) x.0 x.1.0 in
    let a = x.1.1.0 in let b = x.1.1.1 in
    short l ns text h ∙ ap (λ (o : Outcome). loaded_by o (all_names ns (words_of text))) o ∙ ap (λ (m : List Sentence). kept m (all_names ns (words_of text))) (sym a) ∙ ap (kept ss) (sym b)

pub kept_exactly_if_a_theory_is_spelt : KeptExactlyIfATheoryIsSpelt
kept_exactly_if_a_theory_is_spelt l ns text h ss ns' = (text_kept l ns text h ss ns', tree_kept l ns text h ss ns')

-- Faults of words are numbered 1 to 3.
word_fault : (r : WordRefusal) → words.number r ≤ 3
word_fault BadByte = omega arith
word_fault OpenQuote = omega arith
word_fault NameLength = omega arith

word_faults : (r : Words) (ns : Names) → WordFaults (numbering ns r)
unfolding numbering
word_faults (Words.word s t e r) ns = word_faults r (token_names ns t)
word_faults (end_at s) ns = tt
word_faults (fault_at r s) ns = word_fault r

four_by : (c : Bool) (o : Outcome) (ns : Names) (p : ℕ) → cond c (rejected 11 text_limit) (loaded_by o ns) ≡ rejected 4 p → o ≡ refused 4 p
four_by true o ns p e = absurd (grind arith)
four_by false (accepted bs) ns p e = absurd (grind arith)
four_by false (refused n q) ns p e = cc

pub four_is_at_the_first_misplaced_word : FourIsFirst → FourIsAtTheFirstMisplacedWord
unfolding load_text
four_is_at_the_first_misplaced_word first l ns text p e =
    first l (numbering ns (words_of text)) p (word_faults (words_of text) ns)
    (four_by (ltb text_limit (length text)) (load l (numbering ns (words_of text)) (between [])) (all_names ns (words_of text)) p e)
