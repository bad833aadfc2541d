-- The next word: the words from before it on are that word and those behind it.
use Rattle.std.proofs.Common.{◌≡◌, ℕ, suc, ◌-◌, ◌≤◌, List, length, drop, IfOk, Ok, Err, Result, sym, ap, ◌∙◌, subst, arith, Bor}
use Rattle.words.specs.declared.faults.WordFault.{WordFault}
use Rattle.words.specs.declared.reader.WordReader.{WordReader}
use Rattle.words.specs.declared.word.Placed.{Placed}
use Rattle.words.specs.Words.{Token, token, Reading, read, reading_of, word_at}
use Rattle.words.specs.Texts.{Words, continued, words_from, Reads}
use Rattle.words.proofs.Exact as exact
use Rattle.words.proofs.Exact.{goes_on, next_words}
use Rattle.questions.specs.Steps.{words_left, read_as, Short}

module _ (text : List ℕ) (at : ℕ) (inside : at ≤ length text) where
  read_words : (r : Result Placed WordFault) (rd : WordReader) → reading_of r rd.at ≡ word_at text at → rd.text.now ≡ text → words_from text at ≡ read_as r rd
  read_words (Ok p) rd q same =
      next_words text at inside ∙ ap (λ (x : Reading). continued x (words_from text)) (sym q)
      ∙ ap (λ (t : List ℕ). continued (read p.place (token p.word) rd.at) (words_from t)) (sym same)
  read_words (Err f) rd q same = next_words text at inside ∙ ap (λ (x : Reading). continued x (words_from text)) (sym q)

  named : (s e : ℕ) (t : Token) → read s t e ≡ word_at text at → (t ≡ Token.text_end → ⊥) → exact.Short t
  named s e t q n =
      let W : words_from text at ≡ Words.word s t e (words_from text e) =
      next_words text at inside ∙ ap (λ (x : Reading). continued x (words_from text)) (sym q) ∙ goes_on s e t (words_from text) n in
      let P : Words → Type 0 = λ W. Reads at (drop at text) W in
      exact.word_short (subst P W (exact.reads_from (suc (length text - at)) text at inside (omega arith)))

  short : (t : Token) (s e : ℕ) → read s t e ≡ word_at text at → Short t
  short (Token.sign x) s e q = tt
  short (Token.node x) s e q = named s e (Token.node x) q (λ z. let y : ◌≡◌ {A = ℕ} 0 1 = cc in omega arith)
  short (Token.atom x) s e q = named s e (Token.atom x) q (λ z. let y : ◌≡◌ {A = ℕ} 0 1 = cc in omega arith)
  short Token.text_end s e q = tt

  read_short : (r : Result Placed WordFault) (e : ℕ) → reading_of r e ≡ word_at text at → IfOk r (λ p. Short (token p.word))
  read_short (Ok p) e q = short (token p.word) p.place e q
  read_short (Err f) e q = tt

pub next_word : (before after : WordReader) (r : Result Placed WordFault)
    → reading_of r after.at ≡ word_at before.text.now before.at → after.text ≡ before.text
    → (words_left before ≡ read_as r after) × IfOk r (λ p. Short (token p.word))
next_word before after r q same = (
  read_words before.text.now before.at before.within r after q (ap (λ (t : Bor (List ℕ)). t.now) same),
  read_short before.text.now before.at before.within r after.at q,
)
