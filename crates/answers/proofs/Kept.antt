-- The bytes that are kept of a line.
use Rattle.std.proofs.Common.{◌≡◌, ℕ, zero, suc, ◌-◌, ◌<◌, ◌≤◌, min, Bool, true, false, ltb, List, [], ◌∷◌, ◌++◌, length, take, drop, sym, refl, ap, ◌∙◌, append-nil, arith, drop_of_length-le, length-take, take_all}
use Rattle.std.specs.List.{prefix_len}
use Rattle.std.proofs.lemmas.Bool.{cond-true, ltb-true, ltb-false, lt-ltb}
use Rattle.questions.specs.Lines.{read_line}
use Rattle.answers.specs.Input.{kept_bytes, no_feed_lem, to_feed, LongLinesNeedNotBeKept}

take_into : (k : ℕ) (xs ys : List ℕ) → length xs ≤ k → take k (xs ++ ys) ≡ xs ++ take (k - length xs) ys
take_into k [] ys h = let e : k ≡ k - 0 = omega arith in ap (λ (j : ℕ). take j ys) e
take_into zero (x ∷ xs) ys h = absurd (omega arith)
take_into (suc k) (x ∷ xs) ys h =
    let e : k - length xs ≡ suc k - suc (length xs) = omega arith in
    ap (λ (l : List ℕ). x ∷ l) (take_into k xs ys (omega arith) ∙ ap (λ (j : ℕ). xs ++ take j ys) e)

take_least : (j : ℕ) (ys : List ℕ) → take (min (length ys) j) ys ≡ take j ys
take_least j ys = go (ltb (length ys) j) refl
  where
    go : (b : Bool) → ltb (length ys) j ≡ b → take (min (length ys) j) ys ≡ take j ys
    go true e = let h = ltb-true (length ys) j e in take_all (min (length ys) j) ys (omega arith) ∙ sym (take_all j ys (omega arith))
    go false e = let h = ltb-false (length ys) j e in let z : min (length ys) j ≡ j = omega arith in ap (λ (i : ℕ). take i ys) z

-- as many bytes more as there is room for
pub extended : (xs ys zs : List ℕ) (n : ℕ) → length xs ≤ kept_bytes → n ≡ min (length ys) (kept_bytes - length xs) → zs ≡ xs ++ take n ys → zs ≡ take kept_bytes (xs ++ ys)
extended xs ys zs n h e q =
    q ∙ ap (λ (k : ℕ). xs ++ take k ys) e ∙ ap (λ (l : List ℕ). xs ++ l) (take_least (kept_bytes - length xs) ys) ∙ sym (take_into kept_bytes xs ys h)

pub long_lines_need_not_be_kept_lem : LongLinesNeedNotBeKept
unfolding read_line
long_lines_need_not_be_kept_lem ns line = go (ltb 1024 (length line)) refl
  where
    go : (b : Bool) → ltb 1024 (length line) ≡ b → read_line ns (take kept_bytes line) ≡ read_line ns line
    go true e =
        let h = ltb-true 1024 (length line) e in
        let k = length-take kept_bytes line in
        cond-true _ _ _ (lt-ltb 1024 (length (take kept_bytes line)) (omega arith)) ∙ sym (cond-true _ _ _ e)
    go false e = let h = ltb-false 1024 (length line) e in ap (read_line ns) (take_all kept_bytes line (omega arith))

-- ---- a block, from a place on
drop_past : (from : ℕ) (block : List ℕ) → length block ≤ from → drop from block ≡ []
drop_past from block h = drop_of_length-le block h

module _ (block : List ℕ) (from : ℕ) where
  pub past_block : length block < from → (xs : List ℕ) → length xs ≤ kept_bytes → xs ≡ take kept_bytes (xs ++ to_feed block from)
  past_block h xs k =
      let d : drop from block ≡ [] = drop_past from block (omega arith) in
      let f : to_feed block from ≡ [] = ap (λ (l : List ℕ). take (prefix_len no_feed_lem l) l) d in
      sym (take_all kept_bytes xs k) ∙ ap (take kept_bytes) (sym (append-nil xs) ∙ ap (λ (l : List ℕ). xs ++ l) (sym f))
