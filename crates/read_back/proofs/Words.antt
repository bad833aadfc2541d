-- The words of what is written.
use Rattle.std.proofs.Common.{◌≡◌, ℕ, ◌+◌, ◌≤◌, Bool, true, false, cond, ◌&&◌, leb, List, [], ◌∷◌, ◌++◌, map, length, sym, refl, subst, append_assoc, append-nil, arith}
use Rattle.std.proofs.lemmas.Bool.{and_parts, leb-true}
use Rattle.terms.specs.Maps.{every}
use Rattle.classes.specs.declared.ByteClass.{ByteClass}
use Rattle.classes.specs.declared.ByteClass.TheVariants as class
use Rattle.classes.specs.declared.Mark.TheVariants as marks
use Rattle.classes.specs.Classes.{class_of}
use Rattle.words.specs.Words.{Sign, Token, of_name, name_limit}
use Rattle.words.specs.Texts.{Words, words_of, Each, Ends, Gap, Spells, Reads}
use Rattle.words.proofs.Exact.{words_are_exact}
use Rattle.questions.specs.Questions.{Are, ended, next, question_words}
use Rattle.lines.specs.Bytes.{is_plain, bare, atom_bytes, value_bytes, spaced, question_bytes}
use Rattle.read_back.specs.Spellings.{is_capital, node_name, atom_name}

-- from every place on, the bytes are read as these words
abbrev Readable : List Token → List ℕ → Type 0
Readable ts bytes = (at : ℕ) → (W : Words) × (Reads at bytes W × Are ts W)

none : Readable [] []
none at = (_, (Reads.end Gap.none, ended))

one_more : (g w rest : List ℕ) (t : Token) (ts : List Token) → Gap g (w ++ rest) → Spells t w rest → Readable ts rest → Readable (t ∷ ts) (g ++ (w ++ rest))
one_more g w rest t ts gapped spells h at =
    let k = h (at + length g + length w) in (_, (Reads.word refl refl refl gapped spells k.1.0, next k.1.1))

-- the next word right here, and behind a blank
pub here : (w rest : List ℕ) (t : Token) (ts : List Token) → Spells t w rest → Readable ts rest → Readable (t ∷ ts) (w ++ rest)
here w rest t ts = one_more [] w rest t ts Gap.none

after_blank : (w rest : List ℕ) (t : Token) (ts : List Token) → Spells t w rest → Readable ts rest → Readable (t ∷ ts) (32 ∷ (w ++ rest))
after_blank w rest t ts = one_more (32 ∷ []) w rest t ts (Gap.blank refl Gap.none)

-- ---- how names are spelt
each : (p : ℕ → Bool) (x : List ℕ) → every p x ≡ true → Each p true x
each p [] h = Each.none
each p (b ∷ x) h = let a = and_parts (p b) (every p x) h in Each.also a.0 (each p x a.1)

plain : (c : ByteClass) → is_plain c ≡ true → c ≡ class.Plain
plain class.Blank e = absurd (grind arith)
plain class.Bad e = absurd (grind arith)
plain (class.Mark m) e = absurd (grind arith)
plain class.Capital e = absurd (grind arith)
plain class.Plain e = refl

capital : (c : ByteClass) → is_capital c ≡ true → c ≡ class.Capital
capital class.Blank e = absurd (grind arith)
capital class.Bad e = absurd (grind arith)
capital (class.Mark m) e = absurd (grind arith)
capital class.Capital e = refl
capital class.Plain e = absurd (grind arith)

node_spelt : (x rest : List ℕ) → node_name x ≡ true → Ends (of_name false) rest → Spells (Token.node x) x rest
node_spelt [] rest h e = absurd (grind arith)
node_spelt (b ∷ x) rest h e =
    let a = and_parts (is_capital (class_of b)) (every (of_name false) x && leb (length (b ∷ x)) name_limit) h in
    let c = and_parts (every (of_name false) x) (leb (length (b ∷ x)) name_limit) a.1 in
    Spells.node rest (capital (class_of b) a.0) (each (of_name false) x c.0) (leb-true (length (b ∷ x)) name_limit c.1) e

bare_spelt : (x rest : List ℕ) → bare x ≡ true → length x ≤ name_limit → Ends (of_name false) rest → Spells (Token.atom x) x rest
bare_spelt [] rest h k e = absurd (grind arith)
bare_spelt (b ∷ x) rest h k e =
    let a = and_parts (is_plain (class_of b)) (every (of_name false) (b ∷ x)) h in
    let c = and_parts (of_name false b) (every (of_name false) x) a.1 in
    Spells.atom rest (plain (class_of b) a.0) (each (of_name false) x c.1) k e

atom_spelt : (x rest : List ℕ) → atom_name x ≡ true → Ends (of_name false) rest → Spells (Token.atom x) (atom_bytes x) rest
atom_spelt x rest h e =
    let a = and_parts (every (of_name true) x) (leb 1 (length x) && leb (length x) name_limit) h in
    let c = and_parts (leb 1 (length x)) (leb (length x) name_limit) a.1 in
    go a.0 (leb-true 1 (length x) c.0) (leb-true (length x) name_limit c.1) (bare x) refl
  where
    go : every (of_name true) x ≡ true → 1 ≤ length x → length x ≤ name_limit → (b : Bool) → bare x ≡ b → Spells (Token.atom x) (cond b x (39 ∷ (x ++ 39 ∷ []))) rest
    go h k l true t = bare_spelt x rest t l e
    go h k l false t = Spells.quoted (each (of_name true) x h) k l

-- ---- names of atoms in a row
module _ (rest : List ℕ) (ts : List Token) (h : Readable ts rest) (end : Ends (of_name false) rest) where
  behind : (xs : List (List ℕ)) → Ends (of_name false) (value_bytes xs ++ rest)
  behind [] = end
  behind (x ∷ xs) = refl

  row : (xs : List (List ℕ)) → every atom_name xs ≡ true → Readable (map Token.atom xs ++ ts) (value_bytes xs ++ rest)
  row [] k = h
  row (x ∷ xs) k =
      let a = and_parts (atom_name x) (every atom_name xs) k in
      subst (λ (b : List ℕ). Readable (Token.atom x ∷ (map Token.atom xs ++ ts)) (32 ∷ b)) (sym (append_assoc (atom_bytes x) (value_bytes xs) rest))
      (after_blank (atom_bytes x) (value_bytes xs ++ rest) (Token.atom x) (map Token.atom xs ++ ts) (atom_spelt x (value_bytes xs ++ rest) a.0 (behind xs)) (row xs a.1))

  spaced_row : (xs : List (List ℕ)) → every atom_name xs ≡ true → Readable (map Token.atom xs ++ ts) (spaced xs ++ rest)
  spaced_row [] k = h
  spaced_row (x ∷ xs) k =
      let a = and_parts (atom_name x) (every atom_name xs) k in
      subst (λ (b : List ℕ). Readable (Token.atom x ∷ (map Token.atom xs ++ ts)) b) (sym (append_assoc (atom_bytes x) (value_bytes xs) rest))
      (here (atom_bytes x) (value_bytes xs ++ rest) (Token.atom x) (map Token.atom xs ++ ts) (atom_spelt x (value_bytes xs ++ rest) a.0 (behind xs)) (row xs a.1))

-- ---- questions and values
question : (x : List ℕ) (xs : List (List ℕ)) → node_name x ≡ true → every atom_name xs ≡ true → Readable (question_words x xs) (question_bytes x xs)
question x xs n k =
    let path = spaced_row (62 ∷ []) (Token.sign Sign.greater ∷ []) (here (62 ∷ []) [] (Token.sign Sign.greater) [] (Spells.mark marks.Greater refl) none) refl xs k in
    here x _ (Token.node x) _ (node_spelt x _ n refl)
    (here (58 ∷ []) _ (Token.sign Sign.colon) _ (Spells.mark marks.Colon refl) (here (60 ∷ []) _ (Token.sign Sign.less) _ (Spells.mark marks.Less refl) path))

value : (xs : List (List ℕ)) → every atom_name xs ≡ true → Readable (map Token.atom xs ++ []) (value_bytes xs ++ [])
value xs k = row [] [] none tt xs k

-- a text has these words and no others
are : (ts : List Token) (text : List ℕ) → Readable ts text → Are ts (words_of text)
are ts text h = let k = h 0 in subst (Are ts) ((words_are_exact text).only k.0 k.1.0) k.1.1

pub question_are : (x : List ℕ) (xs : List (List ℕ)) → node_name x ≡ true → every atom_name xs ≡ true → Are (question_words x xs) (words_of (question_bytes x xs))
question_are x xs n k = are (question_words x xs) (question_bytes x xs) (question x xs n k)

pub value_are : (xs : List (List ℕ)) → every atom_name xs ≡ true → Are (map Token.atom xs) (words_of (value_bytes xs))
value_are xs k =
    subst (λ (b : List ℕ). Are (map Token.atom xs) (words_of b)) (append-nil (value_bytes xs))
    (subst (λ (ts : List Token). Are ts (words_of (value_bytes xs ++ []))) (append-nil (map Token.atom xs)) (are _ _ (value xs k)))
