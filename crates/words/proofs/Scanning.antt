-- One turn of the scanning loops, and the word at a place by the class of its first byte.
use Rattle.std.proofs.Common.{◌≡◌, ℕ, ◌+◌, ◌<◌, ◌≤◌, Bool, true, false, not, eqb, List, length, get_or, drop, sym, ap, ◌∙◌, arith}
use Rattle.std.specs.List.{prefix_len}
use Rattle.std.proofs.lemmas.List.{at_drop_more, at_drop_all, drop_more}
use Rattle.std.proofs.lemmas.Bool.{cond-true, cond-false}
use Rattle.classes.specs.declared.ByteClass.{ByteClass}
use Rattle.classes.specs.declared.ByteClass.TheVariants as class
use Rattle.classes.specs.Classes.{class_of}
use Rattle.words.specs.Words.{gap, blank_byte, of_name, node, atom, bare, starting, word_from}

module _ (xs : List ℕ) (i : ℕ) where
  pub gap_end_lem : (c : Bool) → length xs ≤ i → gap c (drop i xs) ≡ 0
  gap_end_lem c h = at_drop_all (gap c) xs i h

  pub gap_comment : i < length xs → i + 1 + gap (not (eqb (get_or xs i 0) 10)) (drop (i + 1) xs) ≡ i + gap true (drop i xs)
  gap_comment h = let s = at_drop_more (gap true) xs i 0 h in omega arith

  pub gap_percent : i < length xs → eqb (get_or xs i 0) 37 ≡ true → i + 1 + gap true (drop (i + 1) xs) ≡ i + gap false (drop i xs)
  gap_percent h e = let s = at_drop_more (gap false) xs i 0 h ∙ cond-true _ _ _ e in omega arith

  pub gap_blank : i < length xs → eqb (get_or xs i 0) 37 ≡ false → blank_byte (get_or xs i 0) ≡ true
      → i + 1 + gap false (drop (i + 1) xs) ≡ i + gap false (drop i xs)
  gap_blank h e b = let s = at_drop_more (gap false) xs i 0 h ∙ cond-false _ _ _ e ∙ cond-true _ _ _ b in omega arith

  pub gap_stop : i < length xs → eqb (get_or xs i 0) 37 ≡ false → blank_byte (get_or xs i 0) ≡ false → gap false (drop i xs) ≡ 0
  gap_stop h e b = at_drop_more (gap false) xs i 0 h ∙ cond-false _ _ _ e ∙ cond-false _ _ _ b

module _ (text : List ℕ) (s : ℕ) (h : s < length text) where
  begins : (k : ByteClass) → k ≡ class_of (get_or text s 0) → word_from s (drop s text) ≡ starting s k (get_or text s 0) (drop (s + 1) text)
  begins k e = at_drop_more (word_from s) text s 0 h ∙ ap (λ k. starting s k (get_or text s 0) (drop (s + 1) text)) (sym e)

  pub at_capital : class.Capital ≡ class_of (get_or text s 0)
      → word_from s (drop s text) ≡ bare node s (drop s text) (prefix_len (of_name false) (drop s text))
  at_capital e = begins class.Capital e ∙ ap (λ l. bare node s l (prefix_len (of_name false) l)) (sym (drop_more text s 0 h))

  pub at_plain : class.Plain ≡ class_of (get_or text s 0)
      → word_from s (drop s text) ≡ bare atom s (drop s text) (prefix_len (of_name false) (drop s text))
  at_plain e = begins class.Plain e ∙ ap (λ l. bare atom s l (prefix_len (of_name false) l)) (sym (drop_more text s 0 h))
