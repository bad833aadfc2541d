-- Words only have names that can be spelt.
use Rattle.std.proofs.Common.{◌≡◌, ℕ, ◌≤◌, Bool, true, false, cond, not, ◌&&◌, eqb, leb, List, [], ◌∷◌, length, sym, refl, ap, ◌∙◌, arith}
use Rattle.std.proofs.lemmas.Bool.{and_from, le-leb, eqb-true}
use Rattle.terms.specs.Maps.{every}
use Rattle.classes.specs.declared.ByteClass.TheVariants as class
use Rattle.classes.specs.Classes.{blank, control, printed, class_of}
use Rattle.words.specs.Words.{Token, of_name, is_name, name_limit}
use Rattle.words.specs.Texts.{Words, words_of, Each, Spells, Reads}
use Rattle.words.proofs.Exact.{words_are_exact}
use Rattle.grammar.specs.Texts.{Names, token_names, all_names}
use Rattle.read_back.specs.Spellings.{is_capital, node_name, atom_name, Spellable}
use Rattle.read_back.proofs.Tables.{every_met, distinct_met}

-- a byte of a bare name may stand in a quoted one
no_control : (b : ℕ) → of_name false b ≡ true → control b ≡ false
no_control b h = go (blank b) (control b) h
  where
    go : (p q : Bool) → is_name (cond p class.Blank (cond q class.Bad (printed b))) ≡ true → q ≡ false
    go true q e = absurd (grind arith)
    go false true e = absurd (grind arith)
    go false false e = refl

no_tick : (b : ℕ) → of_name false b ≡ true → eqb b 39 ≡ false
no_tick b h = go (eqb b 39) refl
  where
    go : (t : Bool) → eqb b 39 ≡ t → t ≡ false
    go false t = refl
    go true t = let k : false ≡ true = ap (of_name false) (sym (eqb-true b 39 t)) ∙ h in absurd (grind arith)

in_quotes : (b : ℕ) → of_name false b ≡ true → of_name true b ≡ true
in_quotes b h = and_from (not (control b)) (not (eqb b 39)) (ap not (no_control b h)) (ap not (no_tick b h))

all_of : (p : ℕ → Bool) (x : List ℕ) → Each p true x → every p x ≡ true
all_of p [] Each.none = refl
all_of p (b ∷ x) (Each.also e h) = and_from (p b) (every p x) e (all_of p x h)

all_in_quotes : (x : List ℕ) → Each (of_name false) true x → every (of_name true) x ≡ true
all_in_quotes [] Each.none = refl
all_in_quotes (b ∷ x) (Each.also e h) = and_from (of_name true b) (every (of_name true) x) (in_quotes b e) (all_in_quotes x h)

-- a word's name
abbrev Good : Token → Type 0
Good (Token.sign x) = Unit {0}
Good (Token.node x) = node_name x ≡ true
Good (Token.atom x) = atom_name x ≡ true
Good Token.text_end = Unit {0}

an_atom : (x : List ℕ) → every (of_name true) x ≡ true → 1 ≤ length x → length x ≤ name_limit → atom_name x ≡ true
an_atom x e k l =
    and_from (every (of_name true) x) (leb 1 (length x) && leb (length x) name_limit) e
    (and_from (leb 1 (length x)) (leb (length x) name_limit) (le-leb 1 (length x) k) (le-leb (length x) name_limit l))

spelt_good : {t : Token} {w rest : List ℕ} → Spells t w rest → Good t
spelt_good (Spells.mark m e) = tt
spelt_good Spells.equals = tt
spelt_good (Spells.single_equals r e) = tt
spelt_good (Spells.node {x} {xs} r e h k d) =
    and_from (is_capital (class_of x)) (every (of_name false) xs && leb (length (x ∷ xs)) name_limit) (ap is_capital e)
    (and_from (every (of_name false) xs) (leb (length (x ∷ xs)) name_limit) (all_of (of_name false) xs h) (le-leb (length (x ∷ xs)) name_limit k))
spelt_good (Spells.atom {x} {xs} r e h k d) =
    an_atom (x ∷ xs) (and_from (of_name true x) (every (of_name true) xs) (in_quotes x (ap is_name e)) (all_in_quotes xs h)) (omega arith) k
spelt_good (Spells.quoted {xs} h k l) = an_atom xs (all_of (of_name true) xs h) k l

-- the names after a word
with_word : (ns : Names) (t : Token) → Good t → Spellable ns → Spellable (token_names ns t)
with_word ns (Token.sign x) g h = h
with_word ns (Token.node x) g h = record {
  nodes = every_met node_name ns.nodes x h.nodes g;
  atoms = h.atoms;
  nodes_apart = distinct_met ns.nodes x h.nodes_apart;
  atoms_apart = h.atoms_apart;
}
with_word ns (Token.atom x) g h = record {
  nodes = h.nodes;
  atoms = every_met atom_name ns.atoms x h.atoms g;
  nodes_apart = h.nodes_apart;
  atoms_apart = distinct_met ns.atoms x h.atoms_apart;
}
with_word ns Token.text_end g h = h

-- the names after all words
with_words : {at : ℕ} {bytes : List ℕ} {W : Words} → Reads at bytes W → (ns : Names) → Spellable ns → Spellable (all_names ns W)
unfolding all_names
with_words (Reads.end g) ns h = h
with_words (Reads.fault e g f) ns h = h
with_words (Reads.word {t = t} q p b g spells reads) ns h = with_words reads (token_names ns t) (with_word ns t (spelt_good spells) h)

pub still_spellable : (ns : Names) (text : List ℕ) → Spellable ns → Spellable (all_names ns (words_of text))
still_spellable ns text h = with_words (words_are_exact text).reads ns h
