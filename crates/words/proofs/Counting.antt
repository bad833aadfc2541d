-- One turn of the count of a text's words.
use Rattle.std.proofs.Common.{◌≡◌, ℕ, suc, ◌+◌, ◌-◌, ◌<◌, ◌≤◌, true, false, List, length, drop, Ok, Err, sym, refl, ap, ◌∙◌, subst, arith, length-drop, Bor}
use Rattle.words.specs.declared.faults.WordRefusal.{WordRefusal}
use Rattle.words.specs.declared.tally.Tally.{Tally}
use Rattle.words.specs.declared.word.Word.{Word}
use Rattle.words.specs.declared.word.Word.TheVariants as word
use Rattle.words.specs.Words.{Token, token, read, refused, word_at}
use Rattle.words.specs.Texts.{Words, onward, continued, words_from, words_of, Reads}
use Rattle.words.specs.Tallies.{is_end_lem, none, counted, tallied}
use Rattle.words.proofs.Exact.{reads_from, goes_on, word_bounds, next_words}

-- how far the count has come: what is still to be read completes it
pub record Counting (text : List ℕ) (at : ℕ) (t : Tally) : Type 0 where
  pub whole : tallied t (words_from text at) ≡ tallied none (words_of text)
  pub words : t.words ≤ at
  pub nodes : t.nodes ≤ t.words
  pub atoms : t.atoms ≤ t.words

pub counting_none : (text : List ℕ) → Counting text 0 none
counting_none text = record { whole = refl; words = omega arith; nodes = omega arith; atoms = omega arith }

end_is_last : (k : Token) (t : Tally) (s e : ℕ) (f : ℕ → Words) → is_end_lem k ≡ true → tallied t (onward s k e f) ≡ Ok t
end_is_last (Token.sign x) t s e f h = cc
end_is_last (Token.node x) t s e f h = cc
end_is_last (Token.atom x) t s e f h = cc
end_is_last Token.text_end t s e f h = refl

not_the_end : (k : Token) → is_end_lem k ≡ false → k ≡ Token.text_end → ⊥
not_the_end k h e = let x = ap is_end_lem e in let z : ◌≡◌ {A = ℕ} 0 1 = cc in omega arith

-- every other word counts once
pub sign_counted : (t : Tally) (w : Word) → ((x : Bor (List ℕ)) → w ≡ word.Node x → ⊥) → ((x : Bor (List ℕ)) → w ≡ word.Atom x → ⊥) → is_end_lem (token w) ≡ false
    → counted t (token w) ≡ record { words = t.words + 1; nodes = t.nodes; atoms = t.atoms }
sign_counted t word.Less f g h = refl
sign_counted t word.Greater f g h = refl
sign_counted t word.Colon f g h = refl
sign_counted t word.Equals f g h = refl
sign_counted t word.Stop f g h = refl
sign_counted t word.Quote f g h = refl
sign_counted t word.Open f g h = refl
sign_counted t word.Close f g h = refl
sign_counted t (word.Node x) f g h = absurd (f x refl)
sign_counted t (word.Atom x) f g h = absurd (g x refl)
sign_counted t word.Stray f g h = refl
sign_counted t word.End f g h = let z : ◌≡◌ {A = ℕ} 0 1 = cc in absurd (omega arith)

-- a word that is not the end counts once, and at most once as a name
pub record CountsOnce (t u : Tally) : Type 0 where
  pub words : u.words ≡ t.words + 1
  pub nodes : u.nodes ≤ t.nodes + 1
  pub atoms : u.atoms ≤ t.atoms + 1

counts_once : (t : Tally) (k : Token) → is_end_lem k ≡ false → CountsOnce t (counted t k)
counts_once t (Token.sign x) h = record { words = refl; nodes = omega arith; atoms = omega arith }
counts_once t (Token.node x) h = record { words = refl; nodes = omega arith; atoms = omega arith }
counts_once t (Token.atom x) h = record { words = refl; nodes = omega arith; atoms = omega arith }
counts_once t Token.text_end h = let z : ◌≡◌ {A = ℕ} 0 1 = cc in absurd (omega arith)

module _ (text : List ℕ) (at : ℕ) (t : Tally) (c : Counting text at t) (h : at ≤ length text) where
  pub counting_faults : (r : WordRefusal) (s : ℕ) → refused r s ≡ word_at text at → Err (record { refusal = r; place = s }) ≡ tallied none (words_of text)
  counting_faults r s e =
      ap (λ x. tallied t (continued x (words_from text))) e ∙ sym (ap (tallied t) (next_words text at h)) ∙ c.whole

  pub counting_ends : (k : Token) (s e : ℕ) → read s k e ≡ word_at text at → true ≡ is_end_lem k → Ok t ≡ tallied none (words_of text)
  counting_ends k s e q i =
      sym (end_is_last k t s e (words_from text) (sym i)) ∙ ap (λ x. tallied t (continued x (words_from text))) q
      ∙ sym (ap (tallied t) (next_words text at h)) ∙ c.whole

  pub counting_more : (k : Token) (s e : ℕ) → read s k e ≡ word_at text at → false ≡ is_end_lem k
      → (at < e) × (e ≤ length text) × Counting text e (counted t k)
  counting_more k s e q i =
      let goes = goes_on s e k (words_from text) (not_the_end k (sym i)) in
      let here : words_from text at ≡ Words.word s k e (words_from text e) =
      next_words text at h ∙ ap (λ x. continued x (words_from text)) (sym q) ∙ goes in
      let P : Words → Type 0 = λ ws. Reads at (drop at text) ws in
      let b = word_bounds (subst P here (reads_from (suc (length text - at)) text at h (omega arith))) in
      let n = length-drop at text in
      let o = counts_once t k (sym i) in
      let w = c.words in
      let x = c.nodes in
      let y = c.atoms in
      let ow = o.words in
      let on = o.nodes in
      let oa = o.atoms in (
        b.0,
        omega arith,
        record {
          whole = sym (ap (tallied t) here) ∙ c.whole;
          words = omega arith;
          nodes = omega arith;
          atoms = omega arith;
        },
      )
