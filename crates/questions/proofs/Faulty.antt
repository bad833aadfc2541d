-- A line that is refused has the fault that it is refused for.
use Rattle.std.proofs.Common.{◌≡◌, ℕ, ◌<◌, ◌≤◌, Bool, true, false, cond, ltb, leb, ◌⊎◌, List, [], ◌∷◌, ◌++◌, map, length, sym, refl, ap, ◌∙◌, subst, inl, inr, append_assoc, append-nil, arith, length-append}
use Rattle.std.proofs.lemmas.List.{map_push}
use Rattle.std.proofs.lemmas.Bool.{leb-false, cases_lt}
use Rattle.terms.specs.declared.items.Node.{Node}
use Rattle.terms.specs.declared.items.Atom.{Atom}
use Rattle.terms.specs.Limits.{node_limit, atom_limit, path_limit}
use Rattle.names.specs.Numbers.{number}
use Rattle.words.specs.Words.{Sign, Token}
use Rattle.words.specs.Texts.{Words, end_at, fault_at, words_of}
use Rattle.grammar.specs.Texts.{Names, token_names}
use Rattle.questions.specs.Refusals.{line_limit}
use Rattle.questions.specs.Lines.{Line, asks, rejected, node_of, atom_of, is_colon_lem, is_less_lem, is_greater, is_sign, past, to_the_end, in_path, behind_node, line_from, read_line}
use Rattle.questions.specs.Questions.{path_words, question_words}
use Rattle.questions.specs.FirstFaults.{Begins, Whole, FirstFault, no_word, misplaced, too_early, no_number, long_path, further, Refused, long_line, at_fault, IsRefusedRightly}
use Rattle.questions.proofs.Whole.{too_long, not_long}
use Rattle.questions.proofs.Exactly.{a_colon, a_less, a_greater}

-- lines that are refused alike
alike : {ns : Names} {before : List Token} {W : Words} {a b m p : ℕ} → FirstFault ns before W a b → rejected a b ≡ rejected m p → FirstFault ns before W m p
alike {ns} {before} {W} {a} {b} {m} {p} f e =
    let i : a ≡ m = cc in
    let j : b ≡ p = cc in subst (λ (k : ℕ). FirstFault ns before W k p) i (subst (λ (k : ℕ). FirstFault ns before W a k) j f)

-- ---- what stands where in a question
abbrev Follows : Token → Type 0
Follows (Token.sign z) = is_greater z ≡ true
Follows (Token.node x) = ⊥
Follows (Token.atom x) = Unit {0}
Follows Token.text_end = ⊥

front : List ℕ → List (List ℕ) → List Token
front x ys = Token.node x ∷ (Token.sign Sign.colon ∷ (Token.sign Sign.less ∷ map Token.atom ys))

follows : (xs ys : List (List ℕ)) (t : Token) (us : List Token) → path_words xs ≡ map Token.atom ys ++ (t ∷ us) → Follows t
follows [] [] t us e = let i : Token.sign Sign.greater ≡ t = cc in subst Follows i refl
follows [] (y ∷ ys) t us e = let z : ◌≡◌ {A = ℕ} 0 1 = cc in absurd (omega arith)
follows (x ∷ xs) [] t us e = let i : Token.atom x ≡ t = cc in subst Follows i tt
follows (x ∷ xs) (y ∷ ys) t us e = let i : path_words xs ≡ map Token.atom ys ++ (t ∷ us) = cc in follows xs ys t us i

closed : (xs ys : List (List ℕ)) (t : Token) (us : List Token) → path_words xs ≡ map Token.atom ys ++ (Token.sign Sign.greater ∷ (t ∷ us)) → ⊥
closed [] [] t us e = let z : ◌≡◌ {A = ℕ} 0 1 = cc in omega arith
closed [] (y ∷ ys) t us e = let z : ◌≡◌ {A = ℕ} 0 1 = cc in omega arith
closed (x ∷ xs) [] t us e = let z : ◌≡◌ {A = ℕ} 0 1 = cc in omega arith
closed (x ∷ xs) (y ∷ ys) t us e = let i : path_words xs ≡ map Token.atom ys ++ (Token.sign Sign.greater ∷ (t ∷ us)) = cc in closed xs ys t us i

open_path : (xs ys : List (List ℕ)) → path_words xs ≡ map Token.atom ys → ⊥
open_path [] [] e = let z : ◌≡◌ {A = ℕ} 0 1 = cc in omega arith
open_path [] (y ∷ ys) e = let z : ◌≡◌ {A = ℕ} 0 1 = cc in omega arith
open_path (x ∷ xs) [] e = let z : ◌≡◌ {A = ℕ} 0 1 = cc in omega arith
open_path (x ∷ xs) (y ∷ ys) e = let i : path_words xs ≡ map Token.atom ys = cc in open_path xs ys i

-- the same of a question from its node on
in_front : (x : List ℕ) (ys : List (List ℕ)) (t : Token) → Begins (front x ys ++ t ∷ []) → Follows t
unfolding front
in_front x ys t (x', (xs, (us, e))) =
    let i : path_words xs ≡ (map Token.atom ys ++ t ∷ []) ++ us = cc in follows xs ys t us (i ∙ append_assoc (map Token.atom ys) (t ∷ []) us)

none_behind : (x : List ℕ) (ys : List (List ℕ)) (t : Token) → Begins (question_words x ys ++ t ∷ []) → ⊥
none_behind x ys t (x', (xs, (us, e))) =
    let i : path_words xs ≡ (path_words ys ++ t ∷ []) ++ us = cc in
    closed xs ys t us (i ∙ append_assoc (path_words ys) (t ∷ []) us ∙ append_assoc (map Token.atom ys) (Token.sign Sign.greater ∷ []) (t ∷ us))

not_whole : (x : List ℕ) (ys : List (List ℕ)) → Whole (front x ys) → ⊥
unfolding front
not_whole x ys (x', (xs, e)) = let i : path_words xs ≡ map Token.atom ys = cc in open_path xs ys i

atom_goes_on : (x : List ℕ) (ys : List (List ℕ)) (y : List ℕ) → front x ys ++ Token.atom y ∷ [] ≡ front x (ys ++ y ∷ [])
unfolding front
atom_goes_on x ys y = ap (λ (ts : List Token). Token.node x ∷ (Token.sign Sign.colon ∷ (Token.sign Sign.less ∷ ts))) (sym (map_push Token.atom ys y))

begins_front : (x : List ℕ) (ys : List (List ℕ)) → Begins (front x ys)
unfolding front
begins_front x ys = (x, (ys, (Token.sign Sign.greater ∷ [], refl)))

whole_begins : (ts : List Token) → Whole ts → Begins ts
whole_begins ts (x, (xs, e)) = (x, (xs, ([], e ∙ sym (append-nil ts))))

-- ---- within the path
module _ (m p : ℕ) where
  fault_behind : (W : Words) (n : Node) (l : List Atom) (ns : Names) (x : List ℕ) (ys : List (List ℕ)) → length l ≡ length ys → to_the_end n l ns W ≡ rejected m p
      → FirstFault ns (question_words x ys) W m p
  fault_behind (end_at s) n l ns x ys k e = go (leb (length l) path_limit) refl e
    where
      go : (b : Bool) → leb (length l) path_limit ≡ b → cond b (asks n l ns) (rejected 12 0) ≡ rejected m p → FirstFault ns (question_words x ys) (end_at s) m p
      go true t e = let z : ◌≡◌ {A = ℕ} 0 1 = cc in absurd (omega arith)
      go false t e = let h = leb-false (length l) path_limit t in alike (long_path x ys refl (omega arith)) e
  fault_behind (fault_at r s) n l ns x ys k e = alike no_word e
  fault_behind (Words.word s t e more) n l ns x ys k q = alike (misplaced (none_behind x ys t)) q

  fault_in_path : (W : Words) (n : Node) (l : List Atom) (ns : Names) (x : List ℕ) (ys : List (List ℕ)) → length l ≡ length ys → in_path n l ns W ≡ rejected m p
      → FirstFault ns (front x ys) W m p
  unfolding in_path front
  fault_in_path (end_at s) n l ns x ys k e = alike (too_early (omega arith) (not_whole x ys)) e
  fault_in_path (fault_at r s) n l ns x ys k e = alike no_word e
  fault_in_path (Words.word s (Token.sign z) e more) n l ns x ys k q = go (is_greater z) refl q
    where
      go : (b : Bool) → is_greater z ≡ b → cond b (to_the_end n l ns more) (rejected 4 s) ≡ rejected m p → FirstFault ns (front x ys) (Words.word s (Token.sign z) e more) m p
      go true t i =
          subst (λ (z : Sign). FirstFault ns (front x ys) (Words.word s (Token.sign z) e more) m p) (sym (a_greater z t))
          (further (whole_begins (question_words x ys) (x, (ys, refl))) refl (fault_behind more n l ns x ys k i))
      go false t i = alike (misplaced (λ b. let h = in_front x ys (Token.sign z) b in let y : ◌≡◌ {A = ℕ} 0 1 = cc in omega arith)) i
  fault_in_path (Words.word s (Token.node z) e more) n l ns x ys k q = alike (misplaced (in_front x ys (Token.node z))) q
  fault_in_path (Words.word s (Token.atom y) e more) n l ns x ys k q =
      let i = length-append l (atom_of ns y ∷ []) in
      let j = length-append ys (y ∷ []) in
      go (fault_in_path more n (l ++ atom_of ns y ∷ []) (token_names ns (Token.atom y)) x (ys ++ y ∷ []) (omega arith)) (ltb (number ns.atoms y) atom_limit) refl q
    where
      begins : Begins (front x ys ++ Token.atom y ∷ [])
      begins = subst Begins (sym (atom_goes_on x ys y)) (begins_front x (ys ++ y ∷ []))

      go : (in_path n (l ++ atom_of ns y ∷ []) (token_names ns (Token.atom y)) more ≡ rejected m p → FirstFault (token_names ns (Token.atom y)) (front x (ys ++ y ∷ [])) more m p)
          → (b : Bool) → ltb (number ns.atoms y) atom_limit ≡ b
          → cond b (in_path n (l ++ atom_of ns y ∷ []) (token_names ns (Token.atom y)) more) (rejected 10 s) ≡ rejected m p → FirstFault ns (front x ys) (Words.word s (Token.atom y) e more) m p
      go f true t i = further begins t (subst (λ (ts : List Token). FirstFault (token_names ns (Token.atom y)) ts more m p) (sym (atom_goes_on x ys y)) (f i))
      go f false t i = alike (no_number begins t) i
  fault_in_path (Words.word s Token.text_end e more) n l ns x ys k q = alike (misplaced (in_front x ys Token.text_end)) q

  -- ---- a sign in front of the path
  module _ (test : Sign → Bool) (z : Sign) (only : (x : Sign) → test x ≡ true → x ≡ z) (k : Words → Line) (ns : Names) (before : List Token) (some : 1 ≤ length before)
      (open_end : Whole before → ⊥) (goes_on : Begins (before ++ Token.sign z ∷ [])) (no_other : (t : Token) → Begins (before ++ t ∷ []) → is_sign test t ≡ true)
      (later : (W : Words) → k W ≡ rejected m p → FirstFault ns (before ++ Token.sign z ∷ []) W m p) where
    other : (t : Token) → is_sign test t ≡ false → Begins (before ++ t ∷ []) → ⊥
    other t h b = let i = no_other t b in let y : ◌≡◌ {A = ℕ} 0 1 = cc in omega arith

    fault_past : (W : Words) → past test k W ≡ rejected m p → FirstFault ns before W m p
    fault_past (end_at s) e = alike (too_early some open_end) e
    fault_past (fault_at r s) e = alike no_word e
    fault_past (Words.word s (Token.sign x) e more) q = go (test x) refl q
      where
        go : (b : Bool) → test x ≡ b → cond b (k more) (rejected 4 s) ≡ rejected m p → FirstFault ns before (Words.word s (Token.sign x) e more) m p
        go true t i = subst (λ (x : Sign). FirstFault ns before (Words.word s (Token.sign x) e more) m p) (sym (only x t)) (further goes_on refl (later more i))
        go false t i = alike (misplaced (other (Token.sign x) t)) i
    fault_past (Words.word s (Token.node x) e more) q = alike (misplaced (other (Token.node x) refl)) q
    fault_past (Words.word s (Token.atom x) e more) q = alike (misplaced (other (Token.atom x) refl)) q
    fault_past (Words.word s Token.text_end e more) q = alike (misplaced (other Token.text_end refl)) q

  -- behind the node
  fault_behind_node : (n : Node) (ns : Names) (x : List ℕ) (W : Words) → behind_node n ns W ≡ rejected m p → FirstFault ns (Token.node x ∷ []) W m p
  unfolding front
  fault_behind_node n ns x =
      fault_past is_colon_lem Sign.colon a_colon (past is_less_lem (in_path n [] ns)) ns (Token.node x ∷ []) (omega arith)
      (λ w. let e = w.1.1 in let z : ◌≡◌ {A = ℕ} 0 1 = cc in omega arith)
      (x, ([], (Token.sign Sign.less ∷ (Token.sign Sign.greater ∷ []), refl)))
      (λ t b. let e = b.1.1.1 in let i : Token.sign Sign.colon ≡ t = cc in subst (λ (t : Token). is_sign is_colon_lem t ≡ true) i refl)
      (fault_past is_less_lem Sign.less a_less (in_path n [] ns) ns (Token.node x ∷ (Token.sign Sign.colon ∷ [])) (omega arith)
      (λ w. let e = w.1.1 in let z : ◌≡◌ {A = ℕ} 0 1 = cc in omega arith)
      (x, ([], (Token.sign Sign.greater ∷ [], refl)))
      (λ t b. let e = b.1.1.1 in let i : Token.sign Sign.less ≡ t = cc in subst (λ (t : Token). is_sign is_less_lem t ≡ true) i refl)
      (λ W. fault_in_path W n [] ns x [] refl))

  -- the whole line
  no_node : (t : Token) → Begins (t ∷ []) → (x : List ℕ) × (t ≡ Token.node x)
  no_node t (x, (xs, (us, e))) = let i : t ≡ Token.node x = cc in (x, i)

  fault_from : (W : Words) (ns : Names) → line_from ns W ≡ rejected m p → FirstFault ns [] W m p
  fault_from (end_at s) ns e = let z : ◌≡◌ {A = ℕ} 0 1 = cc in absurd (omega arith)
  fault_from (fault_at r s) ns e = alike no_word e
  fault_from (Words.word s (Token.sign x) e more) ns q =
      alike (misplaced (λ b. let i = (no_node (Token.sign x) b).1 in let z : ◌≡◌ {A = ℕ} 0 1 = cc in omega arith)) q
  fault_from (Words.word s (Token.node x) e more) ns q = go (ltb (number ns.nodes x) node_limit) refl q
    where
      begins : Begins (Token.node x ∷ [])
      begins = (x, ([], (_, refl)))

      go : (b : Bool) → ltb (number ns.nodes x) node_limit ≡ b → cond b (behind_node (node_of ns x) (token_names ns (Token.node x)) more) (rejected 10 s) ≡ rejected m p
          → FirstFault ns [] (Words.word s (Token.node x) e more) m p
      go true t i = further begins t (fault_behind_node (node_of ns x) (token_names ns (Token.node x)) x more i)
      go false t i = alike (no_number begins t) i
  fault_from (Words.word s (Token.atom x) e more) ns q =
      alike (misplaced (λ b. let i = (no_node (Token.atom x) b).1 in let z : ◌≡◌ {A = ℕ} 0 1 = cc in omega arith)) q
  fault_from (Words.word s Token.text_end e more) ns q =
      alike (misplaced (λ b. let i = (no_node Token.text_end b).1 in let z : ◌≡◌ {A = ℕ} 0 1 = cc in omega arith)) q

same_fault : {ns : Names} {line : List ℕ} {a b m p : ℕ} → Refused ns line a b → rejected a b ≡ rejected m p → Refused ns line m p
same_fault {ns} {line} {a} {b} {m} {p} f e =
    let i : a ≡ m = cc in
    let j : b ≡ p = cc in subst (λ (k : ℕ). Refused ns line k p) i (subst (λ (k : ℕ). Refused ns line a k) j f)

-- There is one first fault at most.
one : {ns : Names} {before : List Token} {W : Words} {m p m' p' : ℕ} → FirstFault ns before W m p → FirstFault ns before W m' p' → (m ≡ m') × (p ≡ p')
one no_word no_word = (refl, refl)
one (misplaced a) (misplaced b) = (refl, refl)
one (misplaced a) (no_number b n) = absurd (a b)
one (misplaced a) (further b n f) = absurd (a b)
one (no_number b n) (misplaced a) = absurd (a b)
one (no_number b n) (no_number c k) = (refl, refl)
one (no_number b n) (further c k f) = let z : ◌≡◌ {A = ℕ} 0 1 = cc in absurd (omega arith)
one (further b n f) (misplaced a) = absurd (a b)
one (further b n f) (no_number c k) = let z : ◌≡◌ {A = ℕ} 0 1 = cc in absurd (omega arith)
one (further b n f) (further c k g) = one f g
one (too_early k w) (too_early j v) = (refl, refl)
one (too_early k w) (long_path x xs e l) = absurd (w (x, (xs, e)))
one (long_path x xs e l) (too_early k w) = absurd (w (x, (xs, e)))
one (long_path x xs e l) (long_path y ys f k) = (refl, refl)

pub is_refused_rightly : (ns : Names) (line : List ℕ) → IsRefusedRightly ns line
is_refused_rightly ns line = record { refused = λ m p e. go m p e (cases_lt line_limit (length line)); only = only }
  where
    go : (m p : ℕ) → read_line ns line ≡ rejected m p → (line_limit < length line) ⊎ (length line ≤ line_limit) → Refused ns line m p
    go m p e (inl h) = same_fault (long_line h) (sym (too_long ns line h) ∙ e)
    go m p e (inr h) = at_fault h (fault_from m p (words_of line) ns (sym (not_long ns line h) ∙ e))

    only : (m p m' p' : ℕ) → Refused ns line m p → Refused ns line m' p' → (m ≡ m') × (p ≡ p')
    only m p m' p' (long_line h) (long_line k) = (refl, refl)
    only m p m' p' (long_line h) (at_fault k f) = absurd (omega arith)
    only m p m' p' (at_fault k f) (long_line h) = absurd (omega arith)
    only m p m' p' (at_fault k f) (at_fault h g) = one f g
