-- The line from its node on, and the whole line.
use Rattle.std.proofs.Common.{◌≡◌, ℕ, ◌<◌, ◌≤◌, Bool, true, false, ltb, List, length, is_err, Some, None, Ok, Err, Option, Result, sym, refl, ap, ◌∙◌, arith, Bor}
use Rattle.std.proofs.lemmas.Bool.{cond-true, cond-false, lt-ltb, le-ltb}
use Rattle.terms.specs.declared.items.Node.{Node}
use Rattle.terms.specs.Limits.{node_limit}
use Rattle.path.specs.declared.Path.{Path}
use Rattle.names.specs.Numbers as numbers
use Rattle.words.specs.declared.word.Word.{Word}
use Rattle.words.specs.declared.word.Word.TheVariants as word
use Rattle.words.specs.declared.reader.WordReader.{WordReader}
use Rattle.words.specs.Words.{Token, token}
use Rattle.words.specs.Texts.{Words, onward, words_from, words_of}
use Rattle.grammar.specs.Texts.{Names, token_names}
use Rattle.questions.specs.declared.line_fault.LineFault.{LineFault}
use Rattle.questions.specs.declared.asked.Asked.{Asked}
use Rattle.questions.specs.Refusals.{line_limit}
use Rattle.questions.specs.Lines.{rejected, node_of, behind_node, line_from, read_line, names_left, line_of}
use Rattle.questions.specs.Steps.{words_left, node_or_fault, names_with_node, asked_at, ReadsPath, Unnamed}
use Rattle.questions.proofs.Turns.{ok_is, no_ok}

pub at_start : (line : List ℕ) (rd : WordReader) → rd.text.now ≡ line → rd.at ≡ 0 → words_of line ≡ words_left rd
at_start line rd p q = sym (ap (λ (t : List ℕ). words_from t rd.at) p ∙ ap (words_from line) q)

-- a node that has a number, and what stands behind it
module _ (ns ns' ns'' : Names) (W V : Words) (w : Word) (x : Bor (List ℕ)) (s e : ℕ) (f : ℕ → Words) (o : W ≡ V) (q : V ≡ onward s (token w) e f) (is : w ≡ word.Node x)
    (n : Node) (g : Ok n ≡ node_or_fault ns x.now s) (m : ns' ≡ names_with_node ns x.now) (r : Result Path LineFault) (behind : ReadsPath ns' (f e) r ns'') where
  pub from_node : asked_at n r ns'' ≡ line_from ns W
  from_node = go (ltb (numbers.number ns.nodes x.now) node_limit) refl
    where
      here : line_from ns W ≡ line_from ns (onward s (Token.node x.now) e f)
      here = ap (line_from ns) (o ∙ q ∙ ap (λ (w : Word). onward s (token w) e f) is)

      go : (b : Bool) → ltb (numbers.number ns.nodes x.now) node_limit ≡ b → asked_at n r ns'' ≡ line_from ns W
      go true t =
          let z : n ≡ node_of ns x.now = ok_is (g ∙ cond-true _ _ _ t) in
          let y : ns' ≡ token_names ns (Token.node x.now) = m ∙ cond-true _ _ _ t in
          sym (here ∙ cond-true _ _ _ t ∙ ap (λ (n : Node). behind_node n (token_names ns (Token.node x.now)) (f e)) (sym z) ∙ ap (λ (m : Names). behind_node n m (f e)) (sym y) ∙ behind n)
      go false t = absurd (no_ok (g ∙ cond-false _ _ _ t))

-- the whole line
module _ (ns : Names) (line : List ℕ) where
  pub too_long : line_limit < length line → read_line ns line ≡ rejected 11 line_limit
  unfolding read_line
  too_long h = cond-true _ _ _ (lt-ltb line_limit (length line) h)

  pub not_long : length line ≤ line_limit → read_line ns line ≡ line_from ns (words_of line)
  unfolding read_line
  not_long h = cond-false _ _ _ (le-ltb line_limit (length line) h)

  -- a fault: the names are cut back
  pub refused_line : (r : Result (Option Asked) LineFault) (ns' ns'' : Names) → length line ≤ line_limit → line_of r ns' ≡ line_from ns (words_of line) → true ≡ is_err r → ns'' ≡ ns
      → (line_of r ns'' ≡ read_line ns line) × (ns'' ≡ names_left ns (read_line ns line))
  refused_line (Ok o) ns' ns'' h e i c = let z : ◌≡◌ {A = ℕ} 0 1 = cc in absurd (omega arith)
  refused_line (Err y) ns' ns'' h e i c = let k = e ∙ sym (not_long h) in (k, c ∙ ap (names_left ns) k)

  pub read_as_asked : (r : Result (Option Asked) LineFault) (ns' : Names) → length line ≤ line_limit → line_of r ns' ≡ line_from ns (words_of line) → Unnamed r ns ns' → false ≡ is_err r
      → (line_of r ns' ≡ read_line ns line) × (ns' ≡ names_left ns (read_line ns line))
  read_as_asked (Ok None) ns' h e u i = let k = e ∙ sym (not_long h) in (k, u ∙ ap (names_left ns) k)
  read_as_asked (Ok (Some a)) ns' h e u i = let k = e ∙ sym (not_long h) in (k, ap (names_left ns) k)
  read_as_asked (Err y) ns' h e u i = let z : ◌≡◌ {A = ℕ} 0 1 = cc in absurd (omega arith)
