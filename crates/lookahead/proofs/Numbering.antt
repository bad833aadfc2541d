-- The word ahead: its number, and that a load goes on from it as from the text.
use Rattle.std.proofs.Common.{◌≡◌, ℕ, suc, ◌+◌, ◌-◌, ◌≤◌, Bool, true, false, cond, ltb, leb, List, [], ◌∷◌, length, drop, Ok, Err, sym, refl, ap, ◌∙◌, subst, arith, drop-drop}
use Rattle.std.proofs.lemmas.Bool.{le-leb, ltb-true, ltb-false, and_from, and_parts, cond-true}
use Rattle.terms.specs.declared.items.Node.{Node}
use Rattle.terms.specs.declared.items.Atom.{Atom}
use Rattle.terms.specs.Limits.{nesting_limit}
use Rattle.stores.specs.Sentences.{Sentence}
use Rattle.stores.specs.Refusals.{Limits}
use Rattle.names.specs.declared.part.NoNumber.{NoNumber}
use Rattle.names.specs.declared.part.NoNumber.TheVariants as refused
use Rattle.names.specs.Numbers.{number, takes}
use Rattle.names.specs.Tables.{node_or_none, atom_or_none}
use Rattle.names.specs.declared.tables.Names.{Names as NameTables}
use Rattle.names.proofs.Laws.{number_most}
use Rattle.names.proofs.Counts.{few_nodes, few_atoms}
use Rattle.words.specs.declared.faults.WordRefusal.{WordRefusal}
use Rattle.words.specs.Words.{Sign, Token, Reading, read, refused, gap, word_from, word_at}
use Rattle.words.specs.Texts.{Words, end_at, fault_at, continued, words_within, words_from, word_count, Reads}
use Rattle.words.proofs.Law.{Starts, gap_stops, Says, word_says}
use Rattle.words.proofs.Exact as exact
use Rattle.words.proofs.Exact.{spelt_some, goes_on, next_words}
use Rattle.grammar.specs.Trees as T
use Rattle.grammar.specs.Parsing as parsing
use Rattle.grammar.specs.Parsing.{Stream, word, over, broken, State, Step, go, ends, bad, step, so_far, depth, Outcome}
use Rattle.grammar.specs.Loading.{load, checked, within_limits, kept_or, late_refusal, numbered}
use Rattle.grammar.specs.Texts.{Names, sign_word, token_word, token_names, numbering, all_names, loaded_by}
use Rattle.lookahead.specs.declared.word.Word.{Word}
use Rattle.lookahead.specs.declared.word.Word.TheVariants as w
use Rattle.lookahead.specs.Ended.{none, nothing_behind, number_in_range}
use Rattle.lookahead.specs.Ahead.{names_of, cons, size, gives, Moves, sign_of, node_word, atom_word, word_for, Short}

-- where a table takes a short name no more, the name's number is the limit
full : (limit : ℕ) (names : List (List ℕ)) (x : List ℕ) → length x ≤ 32 → length names ≤ limit → takes limit names x ≡ false → number names x ≡ limit
full limit names x s m e = go (ltb (number names x) limit) refl
  where
    go : (b : Bool) → ltb (number names x) limit ≡ b → number names x ≡ limit
    go true t =
        let y : takes limit names x ≡ true = and_from (leb (length x) 32) (ltb (number names x) limit) (le-leb (length x) 32 s) t in
        let z : ◌≡◌ {A = ℕ} 0 1 = cc in absurd (omega arith)
    go false t = let a = ltb-false (number names x) limit t in let b = number_most names x in omega arith

by_taken : {A : Type 0} (b : Bool) (x : A) (e f : NoNumber) → Err e ≡ cond b (Ok x) (Err f) → b ≡ false
by_taken true x e f q = let z : ◌≡◌ {A = ℕ} 0 1 = cc in absurd (omega arith)
by_taken false x e f q = refl

pub full_nodes : (names : List (List ℕ)) (x : List ℕ) (e : NoNumber) → length x ≤ 32 → length names ≤ 1024 → Err e ≡ node_or_none names x → number names x ≡ 1024
full_nodes names x e s m q = full 1024 names x s m (by_taken (takes 1024 names x) _ e _ q)

pub full_atoms : (names : List (List ℕ)) (x : List ℕ) (e : NoNumber) → length x ≤ 32 → length names ≤ 4096 → Err e ≡ atom_or_none names x → number names x ≡ 4096
full_atoms names x e s m q = full 4096 names x s m (by_taken (takes 4096 names x) _ e _ q)

-- a number at the limit is no number
pub no_number : (n limit : ℕ) → n ≡ limit → ltb n limit ≡ true → ⊥
no_number n limit e t = let h = ltb-true n limit t in omega arith

-- ---- what the word ahead is in front of
sign_cons : (s : ℕ) (x : Sign) (R : Stream) → cons s (Ok (sign_of x)) R ≡ word s (sign_word x) R
sign_cons s Sign.less R = refl
sign_cons s Sign.greater R = refl
sign_cons s Sign.colon R = refl
sign_cons s Sign.equals R = refl
sign_cons s Sign.stop R = refl
sign_cons s Sign.quote R = refl
sign_cons s Sign.open_paren R = refl
sign_cons s Sign.close_paren R = refl
sign_cons s Sign.stray R = refl

node_cons : (s n : ℕ) (R : Stream) → n ≤ 1024 → cons s (Ok (node_word n)) R ≡ word s (T.NodeName (record { 0 = n })) R
node_cons s n R h = go (ltb n 1024) refl
  where
    go : (b : Bool) → ltb n 1024 ≡ b → cons s (Ok (cond b (w.Node (record { 0 = n })) w.UnnumberedNode)) R ≡ word s (T.NodeName (record { 0 = n })) R
    go true t = refl
    go false t =
        let l = ltb-false n 1024 t in
        let e : 1024 ≡ n = omega arith in ap (λ (m : ℕ). word s (T.NodeName (record { 0 = m })) R) e

atom_cons : (s n : ℕ) (R : Stream) → n ≤ 4096 → cons s (Ok (atom_word n)) R ≡ word s (T.AtomName (record { 0 = n })) R
atom_cons s n R h = go (ltb n 4096) refl
  where
    go : (b : Bool) → ltb n 4096 ≡ b → cons s (Ok (cond b (w.Atom (record { 0 = n })) w.UnnumberedAtom)) R ≡ word s (T.AtomName (record { 0 = n })) R
    go true t = refl
    go false t =
        let l = ltb-false n 4096 t in
        let e : 4096 ≡ n = omega arith in ap (λ (m : ℕ). word s (T.AtomName (record { 0 = m })) R) e

-- there are no more names than numbers
pub record Few (ns : Names) : Type 0 where
  pub nodes : length ns.nodes ≤ 1024
  pub atoms : length ns.atoms ≤ 4096

pub few_names : (n : NameTables) → Few (names_of n)
few_names n = record { nodes = few_nodes n; atoms = few_atoms n }

token_cons : (ns : Names) (s : ℕ) (t : Token) (R : Stream) → Few ns → (t ≡ Token.text_end → ⊥) → cons s (Ok (word_for ns t)) R ≡ word s (token_word ns t) R
token_cons ns s (Token.sign x) R f h = sign_cons s x R
token_cons ns s (Token.node x) R f h = let a = f.nodes in let b = number_most ns.nodes x in node_cons s (number ns.nodes x) R (omega arith)
token_cons ns s (Token.atom x) R f h = let a = f.atoms in let b = number_most ns.atoms x in atom_cons s (number ns.atoms x) R (omega arith)
token_cons ns s Token.text_end R f h = absurd (h refl)

-- a name that has a number
pub given_node : (names : List (List ℕ)) (x : List ℕ) (n : Node) → Ok n ≡ node_or_none names x → w.Node n ≡ node_word (number names x)
given_node names x n = go (takes 1024 names x) refl
  where
    go : (b : Bool) → takes 1024 names x ≡ b → Ok n ≡ cond b (Ok (record { 0 = number names x })) (Err refused.Full) → w.Node n ≡ node_word (number names x)
    go true t e =
        let h : n ≡ record { 0 = number names x } = cc in
        let l = (and_parts (leb (length x) 32) (ltb (number names x) 1024) t).1 in ap (λ (m : Node). w.Node m) h ∙ sym (cond-true _ _ _ l)
    go false t e = absurd (grind arith)

pub given_atom : (names : List (List ℕ)) (x : List ℕ) (n : Atom) → Ok n ≡ atom_or_none names x → w.Atom n ≡ atom_word (number names x)
given_atom names x n = go (takes 4096 names x) refl
  where
    go : (b : Bool) → takes 4096 names x ≡ b → Ok n ≡ cond b (Ok (record { 0 = number names x })) (Err refused.Full) → w.Atom n ≡ atom_word (number names x)
    go true t e =
        let h : n ≡ record { 0 = number names x } = cc in
        let l = (and_parts (leb (length x) 32) (ltb (number names x) 4096) t).1 in ap (λ (m : Atom). w.Atom m) h ∙ sym (cond-true _ _ _ l)
    go false t e = absurd (grind arith)

-- Behind a name without a number nothing counts.
within : (c : Bool) (s : ℕ) (F F' : Names) → loaded_by (cond c (parsing.refused 5 s) (parsing.refused 10 s)) F ≡ loaded_by (cond c (parsing.refused 5 s) (parsing.refused 10 s)) F'
within true s F F' = refl
within false s F F' = refl

module _ (l : Limits) (kept : List Sentence) (s : ℕ) (v : T.Word) (F F' : Names) (h : numbered v ≡ false) where
  limited : (σ : State) (o : Outcome) → within_limits s v σ o ≡ cond (ltb nesting_limit (depth σ)) (parsing.refused 5 s) (parsing.refused 10 s)
  limited σ o = ap (λ (b : Bool). cond (ltb nesting_limit (depth σ)) (parsing.refused 5 s) (cond b o (parsing.refused 10 s))) h

  same_by : (x : Step) (k k' : State → Outcome) → loaded_by (checked l kept s v x k) F ≡ loaded_by (checked l kept s v x k') F'
  same_by (go σ) k k' =
      ap (λ (o : Outcome). loaded_by o F) (limited σ (k σ)) ∙ within (ltb nesting_limit (depth σ)) s F F' ∙ sym (ap (λ (o : Outcome). loaded_by o F') (limited σ (k' σ)))
  same_by (ends p x σ) k k' =
      ap (λ (o : Outcome). loaded_by o F) (limited σ (kept_or (late_refusal l kept x) p (k σ))) ∙ within (ltb nesting_limit (depth σ)) s F F'
      ∙ sym (ap (λ (o : Outcome). loaded_by o F') (limited σ (kept_or (late_refusal l kept x) p (k' σ))))
  same_by bad k k' = refl

unnumbered : (l : Limits) (s : ℕ) (v : T.Word) (S S' : Stream) (F F' : Names) (σ : State) → numbered v ≡ false
    → gives l (word s v S) F σ ≡ gives l (word s v S') F' σ
unfolding load
unnumbered l s v S S' F F' σ h = same_by l (so_far σ) s v F F' h (step σ s v) (load l S) (load l S')

-- ---- where the text ends
end_place : (d : List ℕ) (s₀ s e : ℕ) → Starts d → read s Token.text_end e ≡ word_from s₀ d → (d ≡ []) × (e ≡ s₀)
end_place [] s₀ s e h q = (refl, cc)
end_place (b ∷ bs) s₀ s e h q =
    let P : Reading → Type 0 = λ r. Says s₀ (b ∷ bs) r in
    let x = subst P (sym q) (word_says s₀ b bs h) in absurd ((spelt_some x.1.spells).0 refl)

end_again : (text : List ℕ) (e : ℕ) → drop e text ≡ [] → words_from text e ≡ end_at (e + 0)
unfolding words_within
end_again text e q =
    let n : gap false (drop e text) ≡ 0 = ap (gap false) q in
    let z : e + 0 ≡ e = omega arith in
    let here : word_at text e ≡ read (e + 0) Token.text_end (e + 0) =
    ap (λ (n : ℕ). word_from (e + n) (drop (e + n) text)) n ∙ ap (λ (d : List ℕ). word_from (e + 0) d) (ap (λ (k : ℕ). drop k text) z ∙ q) in
    ap (λ (r : Reading). continued r (words_within (length text - e) text)) here

text_ends : (text : List ℕ) (at s e : ℕ) → read s Token.text_end e ≡ word_at text at → words_from text e ≡ end_at (e + 0)
text_ends text at s e q =
    let P : List ℕ → Type 0 = λ l. Starts l in
    let h : Starts (drop (at + gap false (drop at text)) text) = subst P (drop-drop (gap false (drop at text)) at text) (gap_stops (drop at text) false) in
    let x = end_place (drop (at + gap false (drop at text)) text) (at + gap false (drop at text)) s e h q in
    end_again text e (ap (λ (k : ℕ). drop k text) x.1 ∙ x.0)

sign_behind : (x : Sign) (W : Words) → nothing_behind (Ok (sign_of x)) W ≡ true
sign_behind Sign.less W = refl
sign_behind Sign.greater W = refl
sign_behind Sign.colon W = refl
sign_behind Sign.equals W = refl
sign_behind Sign.stop W = refl
sign_behind Sign.quote W = refl
sign_behind Sign.open_paren W = refl
sign_behind Sign.close_paren W = refl
sign_behind Sign.stray W = refl

node_behind : (b : Bool) (n : Node) (W : Words) → nothing_behind (Ok (cond b (w.Node n) w.UnnumberedNode)) W ≡ true
node_behind true n W = refl
node_behind false n W = refl

atom_behind : (b : Bool) (n : Atom) (W : Words) → nothing_behind (Ok (cond b (w.Atom n) w.UnnumberedAtom)) W ≡ true
atom_behind true n W = refl
atom_behind false n W = refl

-- a word's number is in range
sign_number : (x : Sign) → number_in_range (Ok (sign_of x)) ≡ true
sign_number Sign.less = refl
sign_number Sign.greater = refl
sign_number Sign.colon = refl
sign_number Sign.equals = refl
sign_number Sign.stop = refl
sign_number Sign.quote = refl
sign_number Sign.open_paren = refl
sign_number Sign.close_paren = refl
sign_number Sign.stray = refl

node_number : (n : ℕ) (b : Bool) → ltb n 1024 ≡ b → number_in_range (Ok (cond b (w.Node (record { 0 = n })) w.UnnumberedNode)) ≡ true
node_number n true t = t
node_number n false t = refl

atom_number : (n : ℕ) (b : Bool) → ltb n 4096 ≡ b → number_in_range (Ok (cond b (w.Atom (record { 0 = n })) w.UnnumberedAtom)) ≡ true
atom_number n true t = t
atom_number n false t = refl

token_number : (ns : Names) (t : Token) → number_in_range (Ok (word_for ns t)) ≡ true
token_number ns (Token.sign x) = sign_number x
token_number ns (Token.node x) = node_number (number ns.nodes x) _ refl
token_number ns (Token.atom x) = atom_number (number ns.atoms x) _ refl
token_number ns Token.text_end = refl

pub word_number : (ns : Names) (t : Token) (k : Word) → k ≡ word_for ns t → number_in_range (Ok k) ≡ true
word_number ns t k i = ap (λ (k : Word). number_in_range (Ok k)) i ∙ token_number ns t

-- ---- on to the next word
pub size_words : (ns : Names) (W : Words) → size (numbering ns W) ≡ word_count W
unfolding size numbering
size_words ns (Words.word s t e W) = ap suc (size_words (token_names ns t) W)
size_words ns (end_at s) = refl
size_words ns (fault_at r s) = refl

module _ (text : List ℕ) (at : ℕ) (ns : Names) (inside : at ≤ length text) (few : Few ns) where
  pub on_fault : (r : WordRefusal) (s : ℕ) (R : Stream) (F : Names) → refused r s ≡ word_at text at
      → Moves (numbering ns (words_from text at)) (all_names ns (words_from text at)) (cons s (Err r) R) F
      × (size (cons s (Err r) R) ≡ size (numbering ns (words_from text at)))
  unfolding numbering all_names load size
  on_fault r s R F q =
      let W : words_from text at ≡ fault_at r s = next_words text at inside ∙ ap (λ (x : Reading). continued x (words_from text)) (sym q) in
      (λ l σ. ap (λ (W : Words). gives l (numbering ns W) (all_names ns W) σ) W, sym (ap (λ (W : Words). size (numbering ns W)) W))

  abbrev On : Token → ℕ → ℕ → Names → Word → Type 0
  On t s e ns' k =
      Moves (numbering ns (words_from text at)) (all_names ns (words_from text at)) (cons s (Ok k) (numbering ns' (words_from text e))) (all_names ns' (words_from text e))
      × (size (cons s (Ok k) (numbering ns' (words_from text e))) ≡ size (numbering ns (words_from text at)))

  on_end : (s e : ℕ) (ns' : Names) (k : Word) → read s Token.text_end e ≡ word_at text at → k ≡ w.End → ns' ≡ ns → On Token.text_end s e ns' k
  unfolding numbering all_names size
  on_end s e ns' k q i m =
      let W : words_from text at ≡ end_at s = next_words text at inside ∙ ap (λ (x : Reading). continued x (words_from text)) (sym q) in
      let V : words_from text e ≡ end_at (e + 0) = text_ends text at s e q in (
        λ l σ.
            ap (λ (W : Words). gives l (numbering ns W) (all_names ns W) σ) W ∙ ap (λ (F : Names). gives l (over s) F σ) (sym m)
            ∙ sym (ap (λ (k : Word). gives l (cons s (Ok k) (numbering ns' (words_from text e))) (all_names ns' (words_from text e)) σ) i ∙ ap (λ (V : Words). gives l (over s) (all_names ns' V) σ) V),
        ap (λ (k : Word). size (cons s (Ok k) (numbering ns' (words_from text e)))) i ∙ sym (ap (λ (W : Words). size (numbering ns W)) W),
      )

  on_more : (t : Token) (s e : ℕ) (ns' : Names) (k : Word) → (t ≡ Token.text_end → ⊥) → read s t e ≡ word_at text at → k ≡ word_for ns t → (numbered (token_word ns t) ≡ true → ns' ≡ token_names ns t)
      → On t s e ns' k
  unfolding numbering all_names size
  on_more t s e ns' k n q i m =
      let W : words_from text at ≡ Words.word s t e (words_from text e) =
      next_words text at inside ∙ ap (λ (x : Reading). continued x (words_from text)) (sym q) ∙ goes_on s e t (words_from text) n in
      let K : cons s (Ok k) (numbering ns' (words_from text e)) ≡ word s (token_word ns t) (numbering ns' (words_from text e)) =
      ap (λ (k : Word). cons s (Ok k) (numbering ns' (words_from text e))) i ∙ token_cons ns s t (numbering ns' (words_from text e)) few n in (
        λ l σ.
            ap (λ (W : Words). gives l (numbering ns W) (all_names ns W) σ) W
            ∙ tail (numbered (token_word ns t)) refl l σ
            ∙ sym (ap (λ (S : Stream). gives l S (all_names ns' (words_from text e)) σ) K),
        ap size K ∙ ap suc (size_words ns' (words_from text e) ∙ sym (size_words (token_names ns t) (words_from text e))) ∙ sym (ap (λ (W : Words). size (numbering ns W)) W),
      )
    where
      tail : (b : Bool) → numbered (token_word ns t) ≡ b → (l : Limits) (σ : State)
          → gives l (word s (token_word ns t) (numbering (token_names ns t) (words_from text e))) (all_names (token_names ns t) (words_from text e)) σ
          ≡ gives l (word s (token_word ns t) (numbering ns' (words_from text e))) (all_names ns' (words_from text e)) σ
      tail true h l σ = ap (λ (x : Names). gives l (word s (token_word ns t) (numbering x (words_from text e))) (all_names x (words_from text e)) σ) (sym (m h))
      tail false h l σ = unnumbered l s (token_word ns t) _ _ _ _ σ h

  pub on_word : (t : Token) (s e : ℕ) (ns' : Names) (k : Word) → read s t e ≡ word_at text at → k ≡ word_for ns t → (numbered (token_word ns t) ≡ true → ns' ≡ token_names ns t)
      → Moves (numbering ns (words_from text at)) (all_names ns (words_from text at)) (cons s (Ok k) (numbering ns' (words_from text e))) (all_names ns' (words_from text e))
      × (size (cons s (Ok k) (numbering ns' (words_from text e))) ≡ size (numbering ns (words_from text at)))
  on_word (Token.sign x) s e ns' k q i m = on_more (Token.sign x) s e ns' k (λ z. let y : ◌≡◌ {A = ℕ} 0 1 = cc in omega arith) q i m
  on_word (Token.node x) s e ns' k q i m = on_more (Token.node x) s e ns' k (λ z. let y : ◌≡◌ {A = ℕ} 0 1 = cc in omega arith) q i m
  on_word (Token.atom x) s e ns' k q i m = on_more (Token.atom x) s e ns' k (λ z. let y : ◌≡◌ {A = ℕ} 0 1 = cc in omega arith) q i m
  on_word Token.text_end s e ns' k q i m = on_end s e ns' k q i (m refl)

  -- a name that is read is short
  named : (s e : ℕ) (t : Token) → read s t e ≡ word_at text at → (t ≡ Token.text_end → ⊥) → exact.Short t
  named s e t q n =
      let W : words_from text at ≡ Words.word s t e (words_from text e) =
      next_words text at inside ∙ ap (λ (x : Reading). continued x (words_from text)) (sym q) ∙ goes_on s e t (words_from text) n in
      let P : Words → Type 0 = λ W. Reads at (drop at text) W in
      exact.word_short (subst P W (exact.reads_from (suc (length text - at)) text at inside (omega arith)))

  pub read_short : (t : Token) (s e : ℕ) → read s t e ≡ word_at text at → Short t
  read_short (Token.sign x) s e q = tt
  read_short (Token.node x) s e q = named s e (Token.node x) q (λ z. let y : ◌≡◌ {A = ℕ} 0 1 = cc in omega arith)
  read_short (Token.atom x) s e q = named s e (Token.atom x) q (λ z. let y : ◌≡◌ {A = ℕ} 0 1 = cc in omega arith)
  read_short Token.text_end s e q = tt

  -- behind the text's end there are no words
  pub last_word : (t : Token) (s e : ℕ) (k : Word) → read s t e ≡ word_at text at → k ≡ word_for ns t → nothing_behind (Ok k) (words_from text e) ≡ true
  last_word (Token.sign x) s e k q i = ap (λ (k : Word). nothing_behind (Ok k) (words_from text e)) i ∙ sign_behind x (words_from text e)
  last_word (Token.node x) s e k q i = ap (λ (k : Word). nothing_behind (Ok k) (words_from text e)) i ∙ node_behind _ _ (words_from text e)
  last_word (Token.atom x) s e k q i = ap (λ (k : Word). nothing_behind (Ok k) (words_from text e)) i ∙ atom_behind _ _ (words_from text e)
  last_word Token.text_end s e k q i = ap (λ (k : Word). nothing_behind (Ok k) (words_from text e)) i ∙ ap none (text_ends text at s e q)
