-- A line is a question exactly if it has a question's words, and nothing exactly if it has none.
use Rattle.std.proofs.Common.{◌≡◌, ℕ, ◌+◌, ◌<◌, ◌≤◌, Bool, true, false, cond, ltb, leb, ◌⊎◌, List, [], ◌∷◌, ◌++◌, map, length, Some, sym, refl, ap, ◌∙◌, subst, inl, inr, append_assoc, append-nil, arith, length-append}
use lib.ListN.{length-map}
use Rattle.std.proofs.lemmas.Bool.{cond-true, leb-true, le-leb, cases_lt, and_parts, and_from}
use Rattle.terms.specs.declared.items.Node.{Node}
use Rattle.terms.specs.declared.items.Atom.{Atom}
use Rattle.terms.specs.Limits.{node_limit, atom_limit, path_limit}
use Rattle.terms.specs.Maps.{every, node_in_range, atom_in_range}
use Rattle.names.specs.Numbers.{number, name_at}
use Rattle.words.specs.Words.{Sign, Token}
use Rattle.words.specs.Texts.{Words, end_at, fault_at, words_of}
use Rattle.grammar.specs.Texts.{Names, token_names, all_names}
use Rattle.grammar.specs.Naming.{Extends}
use Rattle.grammar.proofs.Naming.{names_are_numbered_as_met}
use Rattle.questions.specs.Refusals.{line_limit}
use Rattle.questions.specs.Lines.{Line, nothing, asks, rejected, node_of, atom_of, is_colon_lem, is_less_lem, is_greater, is_sign, past, to_the_end, in_path, behind_node, line_from, read_line}
use Rattle.questions.specs.Questions.{Are, ended, next, path_words, question_words, Asks, Named, IsReadRightly}
use Rattle.questions.proofs.Numbers.{node_numbered, atom_numbered, named, In}
use Rattle.questions.proofs.Whole.{too_long, not_long}

-- lines are told apart
not_asked : {m s : ℕ} {n : Node} {l : List Atom} {ns : Names} → rejected m s ≡ asks n l ns → ⊥
not_asked e = let z : ◌≡◌ {A = ℕ} 0 1 = cc in omega arith

record Same (n n' : Node) (l l' : List Atom) (ns ns' : Names) : Type 0 where
  node : n' ≡ n
  atoms : l' ≡ l
  names : ns' ≡ ns

same_question : {n n' : Node} {l l' : List Atom} {ns ns' : Names} → asks n l ns ≡ asks n' l' ns' → Same n n' l l' ns ns'
same_question e = record { node = cc; atoms = cc; names = cc }

-- a test that came out well
when : (b : Bool) (x : Line) (m s : ℕ) {n : Node} {l : List Atom} {ns : Names} → cond b x (rejected m s) ≡ asks n l ns → (b ≡ true) × (x ≡ asks n l ns)
when true x m s e = (refl, e)
when false x m s e = absurd (not_asked e)

pub a_colon : (x : Sign) → is_colon_lem x ≡ true → x ≡ Sign.colon
a_colon Sign.less e = absurd (grind arith)
a_colon Sign.greater e = absurd (grind arith)
a_colon Sign.colon e = refl
a_colon Sign.equals e = absurd (grind arith)
a_colon Sign.stop e = absurd (grind arith)
a_colon Sign.quote e = absurd (grind arith)
a_colon Sign.open_paren e = absurd (grind arith)
a_colon Sign.close_paren e = absurd (grind arith)
a_colon Sign.stray e = absurd (grind arith)

pub a_less : (x : Sign) → is_less_lem x ≡ true → x ≡ Sign.less
a_less Sign.less e = refl
a_less Sign.greater e = absurd (grind arith)
a_less Sign.colon e = absurd (grind arith)
a_less Sign.equals e = absurd (grind arith)
a_less Sign.stop e = absurd (grind arith)
a_less Sign.quote e = absurd (grind arith)
a_less Sign.open_paren e = absurd (grind arith)
a_less Sign.close_paren e = absurd (grind arith)
a_less Sign.stray e = absurd (grind arith)

pub a_greater : (x : Sign) → is_greater x ≡ true → x ≡ Sign.greater
a_greater Sign.less e = absurd (grind arith)
a_greater Sign.greater e = refl
a_greater Sign.colon e = absurd (grind arith)
a_greater Sign.equals e = absurd (grind arith)
a_greater Sign.stop e = absurd (grind arith)
a_greater Sign.quote e = absurd (grind arith)
a_greater Sign.open_paren e = absurd (grind arith)
a_greater Sign.close_paren e = absurd (grind arith)
a_greater Sign.stray e = absurd (grind arith)

-- ---- what is asked was spelt

-- the path from here on
record Spelt (n : Node) (before : List Atom) (ns : Names) (W : Words) (n' : Node) (l : List Atom) (ns' : Names) : Type 0 where
  names : List (List ℕ)
  spelt : Are (path_words names) W
  node_is : n' ≡ n
  after : ns' ≡ all_names ns W
  atoms_are : l ≡ before ++ map (atom_of ns') names
  in_range : every atom_in_range (map (atom_of ns') names) ≡ true
  few : length l ≤ path_limit

at_end : (n : Node) (l : List Atom) (ns : Names) (W : Words) (n' : Node) (l' : List Atom) (ns' : Names) → to_the_end n l ns W ≡ asks n' l' ns'
    → Are [] W × (Same n n' l l' ns ns' × ((length l ≤ path_limit) × (all_names ns W ≡ ns)))
unfolding all_names
at_end n l ns (end_at s) n' l' ns' e =
    let w = when (leb (length l) path_limit) (asks n l ns) 12 0 e in (ended, (same_question w.1, (leb-true (length l) path_limit w.0, refl)))
at_end n l ns (fault_at r s) n' l' ns' e = absurd (not_asked e)
at_end n l ns (Words.word s t e more) n' l' ns' q = absurd (not_asked q)

spelt_path : (W : Words) (n : Node) (before : List Atom) (ns : Names) (n' : Node) (l : List Atom) (ns' : Names) → in_path n before ns W ≡ asks n' l ns' → Spelt n before ns W n' l ns'
unfolding in_path all_names
spelt_path (end_at s) n before ns n' l ns' e = absurd (not_asked e)
spelt_path (fault_at r s) n before ns n' l ns' e = absurd (not_asked e)
spelt_path (Words.word s (Token.sign x) e more) n before ns n' l ns' q =
    let w = when (is_greater x) (to_the_end n before ns more) 4 s q in
    let h = at_end n before ns more n' l ns' w.1 in
    let g : Are (Token.sign Sign.greater ∷ []) (Words.word s (Token.sign Sign.greater) e more) = next h.0 in record {
      names = [];
      spelt = subst (λ (x : Sign). Are (Token.sign Sign.greater ∷ []) (Words.word s (Token.sign x) e more)) (sym (a_greater x w.0)) g;
      node_is = h.1.0.node;
      after = h.1.0.names ∙ sym h.1.1.1;
      atoms_are = h.1.0.atoms ∙ sym (append-nil before);
      in_range = refl;
      few = subst (λ (l : List Atom). length l ≤ path_limit) (sym h.1.0.atoms) h.1.1.0;
    }
spelt_path (Words.word s (Token.node x) e more) n before ns n' l ns' q = absurd (not_asked q)
spelt_path (Words.word s (Token.atom x) e more) n before ns n' l ns' q =
    let w = when (ltb (number ns.atoms x) atom_limit) (in_path n (before ++ atom_of ns x ∷ []) (token_names ns (Token.atom x)) more) 10 s q in
    let h = spelt_path more n (before ++ atom_of ns x ∷ []) (token_names ns (Token.atom x)) n' l ns' w.1 in
    let k : number ns'.atoms x ≡ number ns.atoms x = ap (λ (m : Names). number m.atoms x) h.after ∙ (atom_numbered ns x more).number_is in
    let a : atom_of ns x ≡ atom_of ns' x = ap (λ (m : ℕ). record { 0 = m }) (sym k) in record {
      names = x ∷ h.names;
      spelt = next h.spelt;
      node_is = h.node_is;
      after = h.after;
      atoms_are = h.atoms_are ∙ append_assoc before (atom_of ns x ∷ []) (map (atom_of ns') h.names) ∙ ap (λ (a : Atom). before ++ (a ∷ map (atom_of ns') h.names)) a;
      in_range = and_from (ltb (number ns'.atoms x) atom_limit) (every atom_in_range (map (atom_of ns') h.names)) (ap (λ (m : ℕ). ltb m atom_limit) k ∙ w.0) h.in_range;
      few = h.few;
    }
spelt_path (Words.word s Token.text_end e more) n before ns n' l ns' q = absurd (not_asked q)

-- a sign that is passed
module _ (p : Sign → Bool) (z : Sign) (only : (x : Sign) → p x ≡ true → x ≡ z) where
  spelt_past : (k : Words → Line) (W : Words) (n : Node) (l : List Atom) (ns : Names) → past p k W ≡ asks n l ns
      → (s : ℕ) × ((e : ℕ) × ((more : Words) × ((W ≡ Words.word s (Token.sign z) e more) × (k more ≡ asks n l ns))))
  spelt_past k (end_at s) n l ns e = absurd (not_asked e)
  spelt_past k (fault_at r s) n l ns e = absurd (not_asked e)
  spelt_past k (Words.word s (Token.sign x) e more) n l ns q =
      let w = when (p x) (k more) 4 s q in (s, (e, (more, (ap (λ (x : Sign). Words.word s (Token.sign x) e more) (only x w.0), w.1))))
  spelt_past k (Words.word s (Token.node x) e more) n l ns q = absurd (not_asked q)
  spelt_past k (Words.word s (Token.atom x) e more) n l ns q = absurd (not_asked q)
  spelt_past k (Words.word s Token.text_end e more) n l ns q = absurd (not_asked q)

-- the whole line
module _ (ns : Names) (line : List ℕ) (short : length line ≤ line_limit) where
  spelt_line : (W : Words) → words_of line ≡ W → (n : Node) (l : List Atom) (ns' : Names) → line_from ns W ≡ asks n l ns' → Asks ns line n l ns'
  unfolding all_names
  spelt_line (end_at s) o n l ns' e = let z : ◌≡◌ {A = ℕ} 0 1 = cc in absurd (omega arith)
  spelt_line (fault_at r s) o n l ns' e = absurd (not_asked e)
  spelt_line (Words.word s (Token.sign x) e more) o n l ns' q = absurd (not_asked q)
  spelt_line (Words.word s (Token.node x) e more) o n l ns' q =
      let w = when (ltb (number ns.nodes x) node_limit) (behind_node (node_of ns x) (token_names ns (Token.node x)) more) 10 s q in
      let c = spelt_past is_colon_lem Sign.colon a_colon (past is_less_lem (in_path (node_of ns x) [] (token_names ns (Token.node x)))) more n l ns' w.1 in
      let d = spelt_past is_less_lem Sign.less a_less (in_path (node_of ns x) [] (token_names ns (Token.node x))) c.1.1.0 n l ns' c.1.1.1.1 in
      let h = spelt_path d.1.1.0 (node_of ns x) [] (token_names ns (Token.node x)) n l ns' d.1.1.1.1 in
      let W : words_of line ≡ Words.word s (Token.node x) e (Words.word c.0 (Token.sign Sign.colon) c.1.0 (Words.word d.0 (Token.sign Sign.less) d.1.0 d.1.1.0)) =
      o ∙ ap (Words.word s (Token.node x) e) (c.1.1.1.0 ∙ ap (Words.word c.0 (Token.sign Sign.colon) c.1.0) d.1.1.1.0) in
      let after : ns' ≡ all_names ns (words_of line) = h.after ∙ sym (ap (all_names ns) W) in
      let k : number ns'.nodes x ≡ number ns.nodes x = ap (λ (m : Names). number m.nodes x) h.after ∙ (node_numbered ns x d.1.1.0).number_is in
      let i : node_of ns x ≡ node_of ns' x = ap (λ (m : ℕ). record { 0 = m }) (sym k) in
      let g : Are (question_words x h.names) (Words.word s (Token.node x) e (Words.word c.0 (Token.sign Sign.colon) c.1.0 (Words.word d.0 (Token.sign Sign.less) d.1.0 d.1.1.0))) =
      next (next (next h.spelt)) in record {
        short = short;
        name = x;
        path = h.names;
        words = subst (Are (question_words x h.names)) (sym W) g;
        few = subst (λ (m : ℕ). m ≤ path_limit) (ap length h.atoms_are ∙ length-map h.names (atom_of ns')) h.few;
        names = after;
        node = h.node_is ∙ i;
        atoms = h.atoms_are;
        node_numbered = ap node_in_range h.node_is ∙ w.0;
        atoms_numbered = ap (every atom_in_range) h.atoms_are ∙ h.in_range;
      }
  spelt_line (Words.word s (Token.atom x) e more) o n l ns' q = absurd (not_asked q)
  spelt_line (Words.word s Token.text_end e more) o n l ns' q = absurd (not_asked q)

-- ---- what is spelt is asked
asked_path : (xs : List (List ℕ)) (W : Words) (n : Node) (before : List Atom) (ns : Names) → Are (path_words xs) W
    → every atom_in_range (map (atom_of (all_names ns W)) xs) ≡ true → length before + length xs ≤ path_limit
    → in_path n before ns W ≡ asks n (before ++ map (atom_of (all_names ns W)) xs) (all_names ns W)
unfolding in_path all_names
asked_path [] W n before ns (next ended) r k =
    cond-true _ _ _ (le-leb (length before) path_limit (omega arith)) ∙ ap (λ (l : List Atom). asks n l ns) (sym (append-nil before))
asked_path (x ∷ xs) W n before ns (next {more = more} h) r k =
    let after : Names = all_names (token_names ns (Token.atom x)) more in
    let p = and_parts (atom_in_range (atom_of after x)) (every atom_in_range (map (atom_of after) xs)) r in
    let q : number after.atoms x ≡ number ns.atoms x = (atom_numbered ns x more).number_is in
    let a : atom_of ns x ≡ atom_of after x = ap (λ (m : ℕ). record { 0 = m }) (sym q) in
    let l = length-append before (atom_of ns x ∷ []) in
    cond-true _ _ _ (ap (λ (m : ℕ). ltb m atom_limit) (sym q) ∙ p.0)
    ∙ asked_path xs more n (before ++ atom_of ns x ∷ []) (token_names ns (Token.atom x)) h p.1 (omega arith)
    ∙ ap (λ (l : List Atom). asks n l after) (append_assoc before (atom_of ns x ∷ []) (map (atom_of after) xs) ∙ ap (λ (a : Atom). before ++ (a ∷ map (atom_of after) xs)) a)

asked_words : (x : List ℕ) (xs : List (List ℕ)) (W : Words) (ns : Names) → Are (question_words x xs) W → length xs ≤ path_limit
    → node_in_range (node_of (all_names ns W) x) ≡ true → every atom_in_range (map (atom_of (all_names ns W)) xs) ≡ true
    → line_from ns W ≡ asks (node_of (all_names ns W) x) (map (atom_of (all_names ns W)) xs) (all_names ns W)
unfolding all_names
asked_words x xs W ns (next (next (next {more = more} h))) k i r =
    let after : Names = all_names (token_names ns (Token.node x)) more in
    let q : number after.nodes x ≡ number ns.nodes x = (node_numbered ns x more).number_is in
    cond-true _ _ _ (ap (λ (m : ℕ). ltb m node_limit) (sym q) ∙ i)
    ∙ asked_path xs more (node_of ns x) [] (token_names ns (Token.node x)) h r (omega arith)
    ∙ ap (λ (m : ℕ). asks (record { 0 = m }) (map (atom_of after) xs) after) (sym q)

-- ---- the names of what is asked
named_atoms : (xs : List (List ℕ)) (W : Words) (ns ms : Names) → ms ≡ all_names ns W → Are (path_words xs) W
    → map (λ (a : Atom). name_at ms.atoms a.0) (map (atom_of ms) xs) ≡ map Some xs
unfolding all_names
named_atoms [] W ns ms o h = refl
named_atoms (x ∷ xs) W ns ms o (next {more = more} h) =
    let i : In ms.atoms x = subst (λ (m : Names). In m.atoms x) (sym o) (atom_numbered ns x more).inside in
    ap (λ v. v ∷ map (λ (a : Atom). name_at ms.atoms a.0) (map (atom_of ms) xs)) (named ms.atoms x i)
    ∙ ap (λ v. Some x ∷ v) (named_atoms xs more (token_names ns (Token.atom x)) ms o h)

named_node : (x : List ℕ) (xs : List (List ℕ)) (W : Words) (ns ms : Names) → ms ≡ all_names ns W → Are (question_words x xs) W
    → (name_at ms.nodes (number ms.nodes x) ≡ Some x) × (map (λ (a : Atom). name_at ms.atoms a.0) (map (atom_of ms) xs) ≡ map Some xs)
unfolding all_names
named_node x xs W ns ms o (next (next (next {more = more} h))) =
    let i : In ms.nodes x = subst (λ (m : Names). In m.nodes x) (sym o) (node_numbered ns x more).inside in
    (named ms.nodes x i, named_atoms xs more (token_names ns (Token.node x)) ms o h)

-- ---- a line is nothing
not_nothing : {m s : ℕ} → rejected m s ≡ nothing → ⊥
not_nothing e = let z : ◌≡◌ {A = ℕ} 0 1 = cc in omega arith

unless : (b : Bool) (x : Line) (m s : ℕ) → cond b x (rejected m s) ≡ nothing → x ≡ nothing
unless true x m s e = e
unless false x m s e = absurd (not_nothing e)

no_end : (n : Node) (l : List Atom) (ns : Names) (W : Words) → to_the_end n l ns W ≡ nothing → ⊥
no_end n l ns (end_at s) e =
    let k = unless (leb (length l) path_limit) (asks n l ns) 12 0 e in let z : ◌≡◌ {A = ℕ} 0 1 = cc in omega arith
no_end n l ns (fault_at r s) e = not_nothing e
no_end n l ns (Words.word s t e more) q = not_nothing q

no_path : (W : Words) (n : Node) (l : List Atom) (ns : Names) → in_path n l ns W ≡ nothing → ⊥
unfolding in_path
no_path (end_at s) n l ns e = not_nothing e
no_path (fault_at r s) n l ns e = not_nothing e
no_path (Words.word s (Token.sign x) e more) n l ns q = no_end n l ns more (unless (is_greater x) (to_the_end n l ns more) 4 s q)
no_path (Words.word s (Token.node x) e more) n l ns q = not_nothing q
no_path (Words.word s (Token.atom x) e more) n l ns q =
    no_path more n (l ++ atom_of ns x ∷ []) (token_names ns (Token.atom x))
    (unless (ltb (number ns.atoms x) atom_limit) (in_path n (l ++ atom_of ns x ∷ []) (token_names ns (Token.atom x)) more) 10 s q)
no_path (Words.word s Token.text_end e more) n l ns q = not_nothing q

no_past : (p : Sign → Bool) (k : Words → Line) → ((W : Words) → k W ≡ nothing → ⊥) → (W : Words) → past p k W ≡ nothing → ⊥
no_past p k f (end_at s) e = not_nothing e
no_past p k f (fault_at r s) e = not_nothing e
no_past p k f (Words.word s t e more) q = f more (unless (is_sign p t) (k more) 4 s q)

no_words : (W : Words) (ns : Names) → line_from ns W ≡ nothing → Are [] W
no_words (end_at s) ns e = ended
no_words (fault_at r s) ns e = absurd (not_nothing e)
no_words (Words.word s (Token.sign x) e more) ns q = absurd (not_nothing q)
no_words (Words.word s (Token.node x) e more) ns q =
    absurd (no_past is_colon_lem _ (no_past is_less_lem _ (λ W. no_path W (node_of ns x) [] (token_names ns (Token.node x)))) more
    (unless (ltb (number ns.nodes x) node_limit) (behind_node (node_of ns x) (token_names ns (Token.node x)) more) 10 s q))
no_words (Words.word s (Token.atom x) e more) ns q = absurd (not_nothing q)
no_words (Words.word s Token.text_end e more) ns q = absurd (not_nothing q)

nothing_said : (W : Words) (ns : Names) → Are [] W → line_from ns W ≡ nothing
nothing_said W ns ended = refl

-- ---- the theorem
module _ (ns : Names) (line : List ℕ) where
  short_line : (x : Line) → (rejected 11 line_limit ≡ x → ⊥) → read_line ns line ≡ x → length line ≤ line_limit
  short_line x f e = go (cases_lt line_limit (length line))
    where
      go : (line_limit < length line) ⊎ (length line ≤ line_limit) → length line ≤ line_limit
      go (inl h) = absurd (f (sym (too_long ns line h) ∙ e))
      go (inr h) = h

  asked : (n : Node) (l : List Atom) (ns' : Names) → read_line ns line ≡ asks n l ns' → Asks ns line n l ns'
  asked n l ns' e =
      let h = short_line (asks n l ns') not_asked e in spelt_line ns line h (words_of line) refl n l ns' (sym (not_long ns line h) ∙ e)

  read : (n : Node) (l : List Atom) (ns' : Names) → Asks ns line n l ns' → read_line ns line ≡ asks n l ns'
  read n l ns' q =
      let o = q.names in
      let i : node_in_range (node_of (all_names ns (words_of line)) q.name) ≡ true =
      ap (λ (m : Names). node_in_range (node_of m q.name)) (sym o) ∙ ap node_in_range (sym q.node) ∙ q.node_numbered in
      let r : every atom_in_range (map (atom_of (all_names ns (words_of line))) q.path) ≡ true =
      ap (λ (m : Names). every atom_in_range (map (atom_of m) q.path)) (sym o) ∙ ap (every atom_in_range) (sym q.atoms) ∙ q.atoms_numbered in
      not_long ns line q.short ∙ asked_words q.name q.path (words_of line) ns q.words q.few i r
      ∙ ap (λ (m : Names). asks (node_of m q.name) (map (atom_of m) q.path) m) (sym o)
      ∙ ap (λ (n : Node). asks n (map (atom_of ns') q.path) ns') (sym q.node) ∙ ap (λ (l : List Atom). asks n l ns') (sym q.atoms)

  names_of_it : (n : Node) (l : List Atom) (ns' : Names) (q : Asks ns line n l ns') → Named ns q.name q.path n l ns'
  names_of_it n l ns' q =
      let m = names_are_numbered_as_met ns (words_of line) in
      let h = named_node q.name q.path (words_of line) ns ns' q.names q.words in record {
        old_nodes = subst (λ (m : Names). Extends ns.nodes m.nodes) (sym q.names) m.nodes;
        old_atoms = subst (λ (m : Names). Extends ns.atoms m.atoms) (sym q.names) m.atoms;
        node_named = ap (λ (n : Node). name_at ns'.nodes n.0) q.node ∙ h.0;
        atoms_named = ap (map (λ (a : Atom). name_at ns'.atoms a.0)) q.atoms ∙ h.1;
      }

  pub is_read_rightly : IsReadRightly ns line
  is_read_rightly = record {
    question = λ n l ns'. (asked n l ns', read n l ns');
    named = names_of_it;
    none = (
      λ e. let h = short_line nothing not_nothing e in (h, no_words (words_of line) ns (sym (not_long ns line h) ∙ e)),
      λ p. not_long ns line p.0 ∙ nothing_said (words_of line) ns p.1,
    );
  }
