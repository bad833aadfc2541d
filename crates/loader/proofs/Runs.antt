-- One word of a load.
use Rattle.std.proofs.Common.{◌≡◌, ℕ, suc, ◌<◌, ◌≤◌, Bool, true, false, ltb, Some, None, Option, sym, refl, ap, ◌∙◌, arith, Ok, Err, Result}
use Rattle.std.proofs.lemmas.Bool.{cond-true, cond-false, lt-ltb, le-ltb}
use Rattle.terms.specs.declared.items.Node.{Node}
use Rattle.terms.specs.declared.items.Atom.{Atom}
use Rattle.terms.specs.declared.items.Quoting.{Quoting}
use Rattle.terms.specs.declared.items.Quoting.TheVariants.{Plain as plain, Quoted as quoted}
use Rattle.terms.specs.Terms.{Terms, done, atom, node, path}
use Rattle.stores.specs.Refusals.{Limits}
use Rattle.grammar.specs.Trees as T
use Rattle.grammar.specs.Parsing.{Stream, word, over, broken, State, Step, go, step, depth, so_far, side, ready, noded, closed, coloned, quoting, quoted_node, unquoting, Frames, outside, within, Head, then, open_paths, refused}
use Rattle.grammar.specs.Loading.{load, checked, numbered}
use Rattle.words.specs.declared.faults.WordRefusal.{WordRefusal}
use Rattle.lookahead.specs.declared.word.Word.{Word}
use Rattle.lookahead.specs.declared.word.Word.TheVariants as w
use Rattle.lookahead.specs.Ahead.{cons, size, fault_number}
use Rattle.loader.specs.Readings.{is_less_lem, starts, entering, behind}

-- a word that goes on, within the limits; one that opens a fifth path; one without a number; one that no text has there
module _ (l : Limits) (s : ℕ) (w : T.Word) (R : Stream) (σ τ : State) where
  pub on : step σ s w ≡ go τ → depth τ ≤ 4 → numbered w ≡ true → load l (word s w R) σ ≡ load l R τ
  unfolding load
  on e d n = ap (λ (x : Step). checked l (so_far σ) s w x (load l R)) e ∙ cond-false _ _ _ (le-ltb 4 (depth τ) d) ∙ cond-true _ _ _ n

  too_deep : step σ s w ≡ go τ → 4 < depth τ → load l (word s w R) σ ≡ refused 5 s
  unfolding load
  too_deep e d = ap (λ (x : Step). checked l (so_far σ) s w x (load l R)) e ∙ cond-true _ _ _ (lt-ltb 4 (depth τ) d)

  pub no_number : step σ s w ≡ go τ → depth τ ≤ 4 → numbered w ≡ false → load l (word s w R) σ ≡ refused 10 s
  unfolding load
  no_number e d n = ap (λ (x : Step). checked l (so_far σ) s w x (load l R)) e ∙ cond-false _ _ _ (le-ltb 4 (depth τ) d) ∙ cond-false _ _ _ n

pub only_less : (k : Result Word WordRefusal) → is_less_lem k ≡ true → k ≡ Ok w.Less
only_less (Ok (w.Atom a)) e = absurd (grind arith)
only_less (Ok w.UnnumberedAtom) e = absurd (grind arith)
only_less (Ok (w.Node n')) e = absurd (grind arith)
only_less (Ok w.UnnumberedNode) e = absurd (grind arith)
only_less (Ok w.Less) e = refl
only_less (Ok w.Greater) e = absurd (grind arith)
only_less (Ok w.Quote) e = absurd (grind arith)
only_less (Ok w.Colon) e = absurd (grind arith)
only_less (Ok w.Equals) e = absurd (grind arith)
only_less (Ok w.Stop) e = absurd (grind arith)
only_less (Ok w.Open) e = absurd (grind arith)
only_less (Ok w.Close) e = absurd (grind arith)
only_less (Ok w.Stray) e = absurd (grind arith)
only_less (Ok w.End) e = absurd (grind arith)
only_less (Err x) e = absurd (grind arith)

pub no_path : (l : Limits) (h : Head) (r : Bool) (q : Quoting) (n : Node) (f : Frames) (b : Terms) (s : ℕ) (k : Result Word WordRefusal) (R : Stream) → (k ≡ Ok w.Less → ⊥) → load l (cons s k R) (side h r (coloned q n) f b) ≡ refused (fault_number k) s
unfolding load
no_path l h r q n f b s (Ok (w.Atom a)) R e0 = refl
no_path l h r q n f b s (Ok w.UnnumberedAtom) R e0 = refl
no_path l h r q n f b s (Ok (w.Node n')) R e0 = refl
no_path l h r q n f b s (Ok w.UnnumberedNode) R e0 = refl
no_path l h r q n f b s (Ok w.Less) R e0 = absurd (e0 refl)
no_path l h r q n f b s (Ok w.Greater) R e0 = refl
no_path l h r q n f b s (Ok w.Quote) R e0 = refl
no_path l h r q n f b s (Ok w.Colon) R e0 = refl
no_path l h r q n f b s (Ok w.Equals) R e0 = refl
no_path l h r q n f b s (Ok w.Stop) R e0 = refl
no_path l h r q n f b s (Ok w.Open) R e0 = refl
no_path l h r q n f b s (Ok w.Close) R e0 = refl
no_path l h r q n f b s (Ok w.Stray) R e0 = refl
no_path l h r q n f b s (Ok w.End) R e0 = refl
no_path l h r q n f b s (Err x) R e0 = refl

pub no_end : (l : Limits) (h : Head) (r : Bool) (n : Option Node) (i : Terms) (f : Frames) (b : Terms) (s : ℕ) (k : Result Word WordRefusal) (R : Stream) → (k ≡ Ok w.Quote → ⊥) → load l (cons s k R) (side h r (unquoting n i) f b) ≡ refused (fault_number k) s
unfolding load
no_end l h r n i f b s (Ok (w.Atom a)) R e0 = refl
no_end l h r n i f b s (Ok w.UnnumberedAtom) R e0 = refl
no_end l h r n i f b s (Ok (w.Node n')) R e0 = refl
no_end l h r n i f b s (Ok w.UnnumberedNode) R e0 = refl
no_end l h r n i f b s (Ok w.Less) R e0 = refl
no_end l h r n i f b s (Ok w.Greater) R e0 = refl
no_end l h r n i f b s (Ok w.Quote) R e0 = absurd (e0 refl)
no_end l h r n i f b s (Ok w.Colon) R e0 = refl
no_end l h r n i f b s (Ok w.Equals) R e0 = refl
no_end l h r n i f b s (Ok w.Stop) R e0 = refl
no_end l h r n i f b s (Ok w.Open) R e0 = refl
no_end l h r n i f b s (Ok w.Close) R e0 = refl
no_end l h r n i f b s (Ok w.Stray) R e0 = refl
no_end l h r n i f b s (Ok w.End) R e0 = refl
no_end l h r n i f b s (Err x) R e0 = refl

pub no_node_end : (l : Limits) (h : Head) (r : Bool) (n : Node) (f : Frames) (b : Terms) (s : ℕ) (k : Result Word WordRefusal) (R : Stream) → (k ≡ Ok w.Colon → ⊥) → (k ≡ Ok w.Quote → ⊥) → load l (cons s k R) (side h r (quoted_node n) f b) ≡ refused (fault_number k) s
unfolding load
no_node_end l h r n f b s (Ok (w.Atom a)) R e0 e1 = refl
no_node_end l h r n f b s (Ok w.UnnumberedAtom) R e0 e1 = refl
no_node_end l h r n f b s (Ok (w.Node n')) R e0 e1 = refl
no_node_end l h r n f b s (Ok w.UnnumberedNode) R e0 e1 = refl
no_node_end l h r n f b s (Ok w.Less) R e0 e1 = refl
no_node_end l h r n f b s (Ok w.Greater) R e0 e1 = refl
no_node_end l h r n f b s (Ok w.Quote) R e0 e1 = absurd (e1 refl)
no_node_end l h r n f b s (Ok w.Colon) R e0 e1 = absurd (e0 refl)
no_node_end l h r n f b s (Ok w.Equals) R e0 e1 = refl
no_node_end l h r n f b s (Ok w.Stop) R e0 e1 = refl
no_node_end l h r n f b s (Ok w.Open) R e0 e1 = refl
no_node_end l h r n f b s (Ok w.Close) R e0 e1 = refl
no_node_end l h r n f b s (Ok w.Stray) R e0 e1 = refl
no_node_end l h r n f b s (Ok w.End) R e0 e1 = refl
no_node_end l h r n f b s (Err x) R e0 e1 = refl

pub no_close : (l : Limits) (h : Head) (r : Bool) (p : ℕ) (q : Quoting) (n : Option Node) (c : Terms) (f : Frames) (b : Terms) (s : ℕ) (k : Result Word WordRefusal) (R : Stream) → starts k ≡ false → (k ≡ Ok w.Greater → ⊥) → load l (cons s k R) (side h r ready (within p q n c f) b) ≡ refused (fault_number k) s
unfolding load
no_close l h r p q n c f b s (Ok (w.Atom a)) R e0 e1 = absurd (grind arith)
no_close l h r p q n c f b s (Ok w.UnnumberedAtom) R e0 e1 = absurd (grind arith)
no_close l h r p q n c f b s (Ok (w.Node n')) R e0 e1 = absurd (grind arith)
no_close l h r p q n c f b s (Ok w.UnnumberedNode) R e0 e1 = absurd (grind arith)
no_close l h r p q n c f b s (Ok w.Less) R e0 e1 = absurd (grind arith)
no_close l h r p q n c f b s (Ok w.Greater) R e0 e1 = absurd (e1 refl)
no_close l h r p q n c f b s (Ok w.Quote) R e0 e1 = absurd (grind arith)
no_close l h r p q n c f b s (Ok w.Colon) R e0 e1 = refl
no_close l h r p q n c f b s (Ok w.Equals) R e0 e1 = refl
no_close l h false p q n c f b s (Ok w.Stop) R e0 e1 = refl
no_close l h true p q n c f b s (Ok w.Stop) R e0 e1 = refl
no_close l h r p q n c f b s (Ok w.Open) R e0 e1 = refl
no_close l h false p q n c f b s (Ok w.Close) R e0 e1 = refl
no_close l h true p q n c f b s (Ok w.Close) R e0 e1 = refl
no_close l h r p q n c f b s (Ok w.Stray) R e0 e1 = refl
no_close l h r p q n c f b s (Ok w.End) R e0 e1 = refl
no_close l h r p q n c f b s (Err x) R e0 e1 = refl

-- a node that no colon follows is a term
pub settled : (l : Limits) (h : Head) (r : Bool) (n : Node) (f : Frames) (b : Terms) (s : ℕ) (k : Result Word WordRefusal) (R : Stream) → (k ≡ Ok w.Colon → ⊥) → load l (cons s k R) (side h r (noded n) f b) ≡ load l (cons s k R) (side h r ready f (then b (node plain n done)))
unfolding load
settled l h r n f b s (Ok (w.Atom a)) R e = refl
settled l h r n f b s (Ok w.UnnumberedAtom) R e = refl
settled l h r n f b s (Ok (w.Node n')) R e = refl
settled l h r n f b s (Ok w.UnnumberedNode) R e = refl
settled l h r n f b s (Ok w.Less) R e = refl
settled l h r n f b s (Ok w.Greater) R e = refl
settled l h r n f b s (Ok w.Quote) R e = refl
settled l h r n f b s (Ok w.Colon) R e = absurd (e refl)
settled l h r n f b s (Ok w.Equals) R e = refl
settled l h r n f b s (Ok w.Stop) R e = refl
settled l h r n f b s (Ok w.Open) R e = refl
settled l h r n f b s (Ok w.Close) R e = refl
settled l h r n f b s (Ok w.Stray) R e = refl
settled l h r n f b s (Ok w.End) R e = refl
settled l h r n f b s (Err x) R e = refl

-- inside a path, a path is a term whatever follows
pub settled_inside : (l : Limits) (h : Head) (r : Bool) (p : ℕ) (i : Terms) (f : Frames) (b : Terms) (S : Stream) → 1 ≤ open_paths f → load l S (side h r (closed p i) f b) ≡ load l S (side h r ready f (then b (path plain None i done)))
unfolding load
settled_inside l h r p i outside b S d = absurd (omega arith)
settled_inside l h r p i (within p' q n c f) b (word s (T.AtomName a) S) d = refl
settled_inside l h r p i (within p' q n c f) b (word s (T.NodeName n') S) d = refl
settled_inside l h r p i (within p' q n c f) b (word s T.Less S) d = refl
settled_inside l h r p i (within p' q n c f) b (word s T.Greater S) d = refl
settled_inside l h r p i (within p' q n c f) b (word s T.Quote S) d = refl
settled_inside l h r p i (within p' q n c f) b (word s T.Colon S) d = refl
settled_inside l h false p i (within p' q n c f) b (word s T.Is S) d = refl
settled_inside l h true p i (within p' q n c f) b (word s T.Is S) d = refl
settled_inside l h r p i (within p' q n c f) b (word s T.Stop S) d = refl
settled_inside l h r p i (within p' q n c f) b (word s T.Open S) d = refl
settled_inside l h r p i (within p' q n c f) b (word s T.Close S) d = refl
settled_inside l h r p i (within p' q n c f) b (word s T.Stray S) d = refl
settled_inside l h r p i (within p' q n c f) b (over s) d = refl
settled_inside l h r p i (within p' q n c f) b (broken k s) d = refl

module _ (l : Limits) (h : Head) (r : Bool) (f : Frames) (b : Terms) (s : ℕ) (k : Result Word WordRefusal) (R : Stream) where
  pub at_atom : (a : Atom) → Ok (w.Atom a) ≡ k → ltb a.0 4096 ≡ true → open_paths f ≤ 4 → load l (cons s k R) (side h r ready f b) ≡ load l R (side h r ready f (then b (atom a done)))
  at_atom a e n d = ap (λ (j : Result Word WordRefusal). load l (cons s j R) (side h r ready f b)) (sym e) ∙ on l s (T.AtomName a) R (side h r ready f b) (side h r ready f (then b (atom a done))) refl d n

  pub no_atom : k ≡ Ok w.UnnumberedAtom → open_paths f ≤ 4 → load l (cons s k R) (side h r ready f b) ≡ refused 10 s
  no_atom e d = ap (λ (j : Result Word WordRefusal). load l (cons s j R) (side h r ready f b)) e ∙ no_number l s (T.AtomName (record { 0 = 4096 })) R (side h r ready f b) (side h r ready f (then b (atom (record { 0 = 4096 }) done))) refl d refl

  pub at_node : (n : Node) → Ok (w.Node n) ≡ k → ltb n.0 1024 ≡ true → open_paths f ≤ 4 → load l (cons s k R) (side h r ready f b) ≡ load l R (side h r (noded n) f b)
  at_node n e m d = ap (λ (j : Result Word WordRefusal). load l (cons s j R) (side h r ready f b)) (sym e) ∙ on l s (T.NodeName n) R (side h r ready f b) (side h r (noded n) f b) refl d m

  pub no_node : k ≡ Ok w.UnnumberedNode → open_paths f ≤ 4 → load l (cons s k R) (side h r ready f b) ≡ refused 10 s
  no_node e d = ap (λ (j : Result Word WordRefusal). load l (cons s j R) (side h r ready f b)) e ∙ no_number l s (T.NodeName (record { 0 = 1024 })) R (side h r ready f b) (side h r (noded (record { 0 = 1024 })) f b) refl d refl

  pub at_quote : k ≡ Ok w.Quote → open_paths f ≤ 4 → load l (cons s k R) (side h r ready f b) ≡ load l R (side h r quoting f b)
  at_quote e d = ap (λ (j : Result Word WordRefusal). load l (cons s j R) (side h r ready f b)) e ∙ on l s T.Quote R (side h r ready f b) (side h r quoting f b) refl d refl

  pub at_quoted_node : (n : Node) → Ok (w.Node n) ≡ k → ltb n.0 1024 ≡ true → open_paths f ≤ 4 → load l (cons s k R) (side h r quoting f b) ≡ load l R (side h r (quoted_node n) f b)
  at_quoted_node n e m d = ap (λ (j : Result Word WordRefusal). load l (cons s j R) (side h r quoting f b)) (sym e) ∙ on l s (T.NodeName n) R (side h r quoting f b) (side h r (quoted_node n) f b) refl d m

  pub no_quoted_node : k ≡ Ok w.UnnumberedNode → open_paths f ≤ 4 → load l (cons s k R) (side h r quoting f b) ≡ refused 10 s
  no_quoted_node e d = ap (λ (j : Result Word WordRefusal). load l (cons s j R) (side h r quoting f b)) e ∙ no_number l s (T.NodeName (record { 0 = 1024 })) R (side h r quoting f b) (side h r (quoted_node (record { 0 = 1024 })) f b) refl d refl

  pub at_colon : (n : Node) → k ≡ Ok w.Colon → open_paths f ≤ 4 → load l (cons s k R) (side h r (noded n) f b) ≡ load l R (side h r (coloned plain n) f b)
  at_colon n e d = ap (λ (j : Result Word WordRefusal). load l (cons s j R) (side h r (noded n) f b)) e ∙ on l s T.Colon R (side h r (noded n) f b) (side h r (coloned plain n) f b) refl d refl

  pub at_quoted_colon : (n : Node) → k ≡ Ok w.Colon → open_paths f ≤ 4 → load l (cons s k R) (side h r (quoted_node n) f b) ≡ load l R (side h r (coloned quoted n) f b)
  at_quoted_colon n e d = ap (λ (j : Result Word WordRefusal). load l (cons s j R) (side h r (quoted_node n) f b)) e ∙ on l s T.Colon R (side h r (quoted_node n) f b) (side h r (coloned quoted n) f b) refl d refl

  pub at_node_end : (n : Node) → k ≡ Ok w.Quote → open_paths f ≤ 4 → load l (cons s k R) (side h r (quoted_node n) f b) ≡ load l R (side h r ready f (then b (node quoted n done)))
  at_node_end n e d = ap (λ (j : Result Word WordRefusal). load l (cons s j R) (side h r (quoted_node n) f b)) e ∙ on l s T.Quote R (side h r (quoted_node n) f b) (side h r ready f (then b (node quoted n done))) refl d refl

  pub at_end : (n : Option Node) (i : Terms) → k ≡ Ok w.Quote → open_paths f ≤ 4 → load l (cons s k R) (side h r (unquoting n i) f b) ≡ load l R (side h r ready f (then b (path quoted n i done)))
  at_end n i e d = ap (λ (j : Result Word WordRefusal). load l (cons s j R) (side h r (unquoting n i) f b)) e ∙ on l s T.Quote R (side h r (unquoting n i) f b) (side h r ready f (then b (path quoted n i done))) refl d refl

  enters : (q : Quoting) (n : Option Node) → step (side h r (entering q n) f b) s T.Less ≡ go (side h r ready (within s q n b f) done)
  enters plain None = refl
  enters plain (Some n) = refl
  enters quoted None = refl
  enters quoted (Some n) = refl

  pub at_less : (q : Quoting) (n : Option Node) → is_less_lem k ≡ true → open_paths f < 4 → load l (cons s k R) (side h r (entering q n) f b) ≡ load l R (side h r ready (within s q n b f) done)
  at_less q n e d = ap (λ (j : Result Word WordRefusal). load l (cons s j R) (side h r (entering q n) f b)) (only_less k e) ∙ on l s T.Less R (side h r (entering q n) f b) (side h r ready (within s q n b f) done) (enters q n) d refl

  pub at_fifth : (q : Quoting) (n : Option Node) → is_less_lem k ≡ true → open_paths f ≡ 4 → load l (cons s k R) (side h r (entering q n) f b) ≡ refused 5 s
  at_fifth q n e d = ap (λ (j : Result Word WordRefusal). load l (cons s j R) (side h r (entering q n) f b)) (only_less k e) ∙ too_deep l s T.Less R (side h r (entering q n) f b) (side h r ready (within s q n b f) done) (enters q n) (omega arith)

  -- a path's >
  abbrev pub closing : Quoting → Option Node → ℕ → Terms → State
  closing plain n p i = behind h r plain n p i f b
  closing quoted n p i = side h r (unquoting n i) f b

  closes : (q : Quoting) (n : Option Node) (p : ℕ) (i : Terms) → step (side h r ready (within p q n b f) i) s T.Greater ≡ go (closing q n p i)
  closes plain None p i = refl
  closes plain (Some n) p i = refl
  closes quoted n p i = refl

  no_deeper : (q : Quoting) (n : Option Node) (p : ℕ) (i : Terms) → depth (closing q n p i) ≡ open_paths f
  no_deeper plain None p i = refl
  no_deeper plain (Some n) p i = refl
  no_deeper quoted n p i = refl

  pub at_greater : (q : Quoting) (n : Option Node) (p : ℕ) (i : Terms) → k ≡ Ok w.Greater → open_paths f ≤ 4 → load l (cons s k R) (side h r ready (within p q n b f) i) ≡ load l R (closing q n p i)
  at_greater q n p i e d = let z = no_deeper q n p i in ap (λ (j : Result Word WordRefusal). load l (cons s j R) (side h r ready (within p q n b f) i)) e ∙ on l s T.Greater R (side h r ready (within p q n b f) i) (closing q n p i) (closes q n p i) (omega arith) refl

-- a word that begins a term, and is no name and no <, is a quote mark
pub quote_only : (k : Result Word WordRefusal) → starts k ≡ true → (k ≡ Ok w.Less → ⊥) → ((a : Atom) → k ≡ Ok (w.Atom a) → ⊥) → ((n : Node) → k ≡ Ok (w.Node n) → ⊥) → (k ≡ Ok w.UnnumberedAtom → ⊥) → (k ≡ Ok w.UnnumberedNode → ⊥) → k ≡ Ok w.Quote
quote_only (Ok (w.Atom x)) a b c d e f = absurd (c x refl)
quote_only (Ok w.UnnumberedAtom) a b c d e f = absurd (e refl)
quote_only (Ok (w.Node n')) a b c d e f = absurd (d n' refl)
quote_only (Ok w.UnnumberedNode) a b c d e f = absurd (f refl)
quote_only (Ok w.Less) a b c d e f = absurd (b refl)
quote_only (Ok w.Greater) a b c d e f = absurd (grind arith)
quote_only (Ok w.Quote) a b c d e f = refl
quote_only (Ok w.Colon) a b c d e f = absurd (grind arith)
quote_only (Ok w.Equals) a b c d e f = absurd (grind arith)
quote_only (Ok w.Stop) a b c d e f = absurd (grind arith)
quote_only (Ok w.Open) a b c d e f = absurd (grind arith)
quote_only (Ok w.Close) a b c d e f = absurd (grind arith)
quote_only (Ok w.Stray) a b c d e f = absurd (grind arith)
quote_only (Ok w.End) a b c d e f = absurd (grind arith)
quote_only (Err x) a b c d e f = absurd (grind arith)

pub no_quoted : (l : Limits) (h : Head) (r : Bool) (f : Frames) (b : Terms) (s : ℕ) (k : Result Word WordRefusal) (R : Stream) → (k ≡ Ok w.Less → ⊥) → ((n : Node) → k ≡ Ok (w.Node n) → ⊥) → (k ≡ Ok w.UnnumberedNode → ⊥) → load l (cons s k R) (side h r quoting f b) ≡ refused (fault_number k) s
unfolding load
no_quoted l h r f b s (Ok (w.Atom a)) R e0 e1 e2 = refl
no_quoted l h r f b s (Ok w.UnnumberedAtom) R e0 e1 e2 = refl
no_quoted l h r f b s (Ok (w.Node n')) R e0 e1 e2 = absurd (e1 n' refl)
no_quoted l h r f b s (Ok w.UnnumberedNode) R e0 e1 e2 = absurd (e2 refl)
no_quoted l h r f b s (Ok w.Less) R e0 e1 e2 = absurd (e0 refl)
no_quoted l h r f b s (Ok w.Greater) R e0 e1 e2 = refl
no_quoted l h r f b s (Ok w.Quote) R e0 e1 e2 = refl
no_quoted l h r f b s (Ok w.Colon) R e0 e1 e2 = refl
no_quoted l h r f b s (Ok w.Equals) R e0 e1 e2 = refl
no_quoted l h r f b s (Ok w.Stop) R e0 e1 e2 = refl
no_quoted l h r f b s (Ok w.Open) R e0 e1 e2 = refl
no_quoted l h r f b s (Ok w.Close) R e0 e1 e2 = refl
no_quoted l h r f b s (Ok w.Stray) R e0 e1 e2 = refl
no_quoted l h r f b s (Ok w.End) R e0 e1 e2 = refl
no_quoted l h r f b s (Err x) R e0 e1 e2 = refl

-- one word fewer is left
pub fewer_start : (s : ℕ) (k : Result Word WordRefusal) (R : Stream) → starts k ≡ true → size (cons s k R) ≡ suc (size R)
unfolding size
fewer_start s (Ok (w.Atom a)) R n = refl
fewer_start s (Ok w.UnnumberedAtom) R n = refl
fewer_start s (Ok (w.Node n')) R n = refl
fewer_start s (Ok w.UnnumberedNode) R n = refl
fewer_start s (Ok w.Less) R n = refl
fewer_start s (Ok w.Greater) R n = absurd (grind arith)
fewer_start s (Ok w.Quote) R n = refl
fewer_start s (Ok w.Colon) R n = absurd (grind arith)
fewer_start s (Ok w.Equals) R n = absurd (grind arith)
fewer_start s (Ok w.Stop) R n = absurd (grind arith)
fewer_start s (Ok w.Open) R n = absurd (grind arith)
fewer_start s (Ok w.Close) R n = absurd (grind arith)
fewer_start s (Ok w.Stray) R n = absurd (grind arith)
fewer_start s (Ok w.End) R n = absurd (grind arith)
fewer_start s (Err x) R n = absurd (grind arith)

abbrev pub is_word : Word → Bool
is_word (w.Atom a) = true
is_word w.UnnumberedAtom = true
is_word (w.Node n) = true
is_word w.UnnumberedNode = true
is_word w.Less = true
is_word w.Greater = true
is_word w.Quote = true
is_word w.Colon = true
is_word w.Equals = true
is_word w.Stop = true
is_word w.Open = true
is_word w.Close = true
is_word w.Stray = true
is_word w.End = false

-- the same, where what is behind has become as long a stream
pub one_word : (s : ℕ) (k : Result Word WordRefusal) (v : Word) (R S : Stream) → k ≡ Ok v → is_word v ≡ true → size S ≡ size R → size (cons s k R) ≡ suc (size S)
unfolding size
one_word s k v R S e c q = ap (λ (j : Result Word WordRefusal). size (cons s j R)) e ∙ counts v c ∙ ap suc (sym q)
  where
    counts : (v : Word) → is_word v ≡ true → size (cons s (Ok v) R) ≡ suc (size R)
    counts (w.Atom a) c = refl
    counts w.UnnumberedAtom c = refl
    counts (w.Node n) c = refl
    counts w.UnnumberedNode c = refl
    counts w.Less c = refl
    counts w.Greater c = refl
    counts w.Quote c = refl
    counts w.Colon c = refl
    counts w.Equals c = refl
    counts w.Stop c = refl
    counts w.Open c = refl
    counts w.Close c = refl
    counts w.Stray c = refl
    counts w.End c = absurd (grind arith)

pub one_start : (s : ℕ) (k : Result Word WordRefusal) (R S : Stream) → starts k ≡ true → size S ≡ size R → size (cons s k R) ≡ suc (size S)
one_start s k R S c q = fewer_start s k R c ∙ ap suc (sym q)
