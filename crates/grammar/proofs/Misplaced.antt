-- Refusal 4 stands at the first word that no text has there.
use Rattle.std.proofs.Common.{◌≡◌, ℕ, Bool, true, false, List, [], ◌∷◌, ◌++◌, Some, None, sym, refl, ap, ◌∙◌, subst, append_assoc, append-nil, arith}
use Rattle.terms.specs.declared.items.Quoting.TheVariants.{Plain as plain, Quoted as quoted}
use Rattle.terms.specs.Terms.{Terms, done, node, path}
use Rattle.grammar.specs.Trees.{Word, Less, Greater, Quote, Colon, Is, Stop, Close, Block, words, closes, theory_words}
use Rattle.grammar.specs.Parsing
use Rattle.grammar.specs.Parsing.{Stream, word, over, broken, parse, follow, finish, Step, go, ends, bad, Head, Front, Frames, outside, within, side, ready, then, between, begun, body, lefting, lefted, State, Outcome, accepted, refused}
use Rattle.grammar.specs.Theorems.{contents, intact, Reads, Begins, Stuck, Misplaced, WordFaults}
use Rattle.grammar.proofs.Spelled.{frame_words, side_read, spelled, equations_words_++, theory_words_++, frame_words_then, cons_++}
use Rattle.grammar.proofs.Sound.{Told, told, never}
use Rattle.grammar.proofs.Complete.{complete, in_a_row, in_a_row_intact, in_a_row_contents}

-- the words that close the open paths, and the terms that they then are
abbrev closing : Frames → List Word
closing outside = []
closing (within p q n b f) = closes q ++ closing f

abbrev up : Frames → Terms → Terms
up outside t = t
up (within p q n b f) t = up f (then b (path q n t done))

up_words : (f : Frames) (t : Terms) → words (up f t) ≡ frame_words f t ++ closing f
up_words outside t = sym (append-nil (words t))
up_words (within p q n b f) t = up_words f (then b (path q n t done)) ∙ simp (frame_words_then, append_assoc, append-nil)

abbrev last_words : Bool → List Word
last_words false = Stop ∷ []
last_words true = Close ∷ Stop ∷ []

finish_side : (h : Head) (r : Bool) (f : Frames) (t : Terms) → theory_words (Parsing.whole (Parsing.with_equation h r (up f t))) ≡ side_read h r f t ++ (closing f ++ last_words r)
finish_side h false f t = simp (theory_words_++, equations_words_++, up_words, append_assoc, append-nil, cons_++)
finish_side h true f t = simp (theory_words_++, equations_words_++, up_words, append_assoc, append-nil, cons_++)

-- from whole terms on
end_side : (h : Head) (r : Bool) (f : Frames) (t : Terms) (ws vs : List Word) → side_read h r f t ≡ ws ++ vs → Begins ws
end_side h r f t ws vs e = record { more = vs ++ (closing f ++ last_words r); tree = Parsing.whole (Parsing.with_equation h r (up f t)); same = finish_side h r f t ∙ ap (λ (l : List Word). l ++ (closing f ++ last_words r)) e ∙ append_assoc ws vs (closing f ++ last_words r) }

-- what was read begins some tree's words
begins : (σ : State) → Begins (spelled σ)
begins (between bs) = record { more = []; tree = bs; same = sym (append-nil (theory_words bs)) }
begins (Parsing.naming bs n) = record { more = Colon ∷ Stop ∷ []; tree = Parsing.whole (record { blocks = bs; name = n; equations = [] }); same = simp (theory_words_++, append_assoc, append-nil, cons_++) }
begins (body f) = record { more = Stop ∷ []; tree = Parsing.whole f; same = simp (theory_words_++, append_assoc, append-nil, cons_++) }
begins (lefting f p ls) = end_side (record { front = f; place = p; left = ls }) false outside done _ (Greater ∷ Is ∷ []) (simp (append_assoc, append-nil, cons_++))
begins (lefted h) = end_side h false outside done _ (Is ∷ []) (simp (append_assoc, append-nil, cons_++))
begins (begun h) = end_side h false outside done _ [] (simp append-nil)
begins (side h r Parsing.ready f t) = end_side h r f t _ [] (simp append-nil)
begins (side h r (Parsing.noded n) f t) = end_side h r f (then t (node plain n done)) _ [] (simp (frame_words_then, append_assoc, append-nil, cons_++))
begins (side h r (Parsing.closed p i) f t) = end_side h r f (then t (path plain None i done)) _ [] (simp (frame_words_then, append_assoc, append-nil, cons_++))
begins (side h r (Parsing.coloned plain n) f t) = end_side h r f (then t (path plain (Some n) done done)) _ (Less ∷ Greater ∷ []) (simp (frame_words_then, append_assoc, append-nil, cons_++))
begins (side h r (Parsing.coloned quoted n) f t) = end_side h r f (then t (path quoted (Some n) done done)) _ (Less ∷ Greater ∷ Quote ∷ []) (simp (frame_words_then, append_assoc, append-nil, cons_++))
begins (side h r Parsing.quoting f t) = end_side h r f (then t (path quoted None done done)) _ (Less ∷ Greater ∷ Quote ∷ []) (simp (frame_words_then, append_assoc, append-nil, cons_++))
begins (side h r (Parsing.quoted_node n) f t) = end_side h r f (then t (node quoted n done)) _ (Quote ∷ []) (simp (frame_words_then, append_assoc, append-nil, cons_++))
begins (side h r (Parsing.unquoting n i) f t) = end_side h r f (then t (path quoted n i done)) _ (Quote ∷ []) (simp (frame_words_then, append_assoc, append-nil, cons_++))

-- The words ws were read from the start, in front of anything, and led to σ.
record Reached (S : Stream) (σ : State) (R : Stream) : Type 0 where
  read : List Word
  reads : Reads read S R
  front : Stream → Stream
  leads : (T : Stream) → parse (front T) (between []) ≡ parse T σ
  has : (T : Stream) → contents (front T) ≡ read ++ contents T
  whole : (T : Stream) → intact (front T) ≡ intact T
  spelt : spelled σ ≡ read
  here : front R ≡ S

reads_more : (ws : List Word) (S : Stream) (s : ℕ) (w : Word) (R : Stream) → Reads ws S (word s w R) → Reads (ws ++ w ∷ []) S R
reads_more [] S s w R x = (s, (R, (x, refl)))
reads_more (v ∷ ws) S s w R x = (x.0, (x.1.0, (x.1.1.0, reads_more ws x.1.0 s w R x.1.1.1)))

reached_more : (S : Stream) (σ τ : State) (s : ℕ) (w : Word) (R : Stream) → Reached S σ (word s w R) → ((T : Stream) → parse (word s w T) σ ≡ parse T τ) → spelled τ ≡ spelled σ ++ w ∷ [] → Reached S τ R
reached_more S σ τ s w R x k e = record {
  read = x.read ++ w ∷ [];
  reads = reads_more x.read S s w R x.reads;
  front = λ T. x.front (word s w T);
  leads = λ T. x.leads (word s w T) ∙ k T;
  has = λ T. x.has (word s w T) ∙ sym (append_assoc x.read (w ∷ []) (contents T));
  whole = λ T. x.whole (word s w T);
  spelt = e ∙ ap (λ (l : List Word). l ++ w ∷ []) x.spelt;
  here = x.here;
}

clash : {X : Type 0} (n p : ℕ) (o : Outcome) (bs : List Block) → o ≡ accepted bs → o ≡ refused n p → X
clash n p o bs a b = never n p bs (sym b ∙ a)

-- if every stream from here on is refused, no tree's words begin so
no_way : (S : Stream) (σ : State) (R : Stream) (x : Reached S σ R) (vs : List Word) (T : Stream) (n p : ℕ) (bs : List Block) → intact T ≡ true → contents T ≡ vs → parse T σ ≡ refused n p → theory_words bs ≡ x.read ++ vs → ⊥
no_way S σ R x vs T n p bs i c e t =
    clash n p (parse (x.front T) (between [])) bs
    (complete (x.front T) bs (record { unbroken = x.whole T ∙ i; same = x.has T ∙ ap (λ (l : List Word). x.read ++ l) c ∙ sym t }))
    (x.leads T ∙ e)

misplaced_at : (S : Stream) (σ : State) (s : ℕ) (w : Word) (R : Stream) (p : ℕ) → ((T : Stream) → parse (word s w T) σ ≡ refused 4 s) → s ≡ p → Reached S σ (word s w R) → Misplaced S p
misplaced_at S σ s w R p k e x = record {
  read = x.read;
  rest = word s w R;
  reads = x.reads;
  before = subst Begins x.spelt (begins σ);
  stuck = (e, λ b. no_way S σ (word s w R) x (w ∷ b.more) (word s w (in_a_row b.more)) 4 s b.tree (in_a_row_intact b.more) (ap (λ (l : List Word). w ∷ l) (in_a_row_contents b.more)) (k (in_a_row b.more)) (b.same ∙ append_assoc x.read (w ∷ []) b.more));
}

same_place : (s p : ℕ) → refused 4 s ≡ refused 4 p → s ≡ p
same_place s p e = cc

misplaced_on : (S : Stream) (σ : State) (s : ℕ) (w : Word) (R : Stream) (p : ℕ) (x : Step) → Told (spelled σ) w x → ((T : Stream) → parse (word s w T) σ ≡ follow x s (parse T)) → ((τ : State) → Reached S τ R → parse R τ ≡ refused 4 p → Misplaced S p) → Reached S σ (word s w R) → follow x s (parse R) ≡ refused 4 p → Misplaced S p
misplaced_on S σ s w R p (go τ) t k m x e = m τ (reached_more S σ τ s w R x k t) e
misplaced_on S σ s w R p (ends q y τ) t k m x e = m τ (reached_more S σ τ s w R x k t) e
misplaced_on S σ s w R p bad t k m x e = misplaced_at S σ s w R p k (same_place s p e) x

-- at the end, too early
too_early : (σ : State) (s p : ℕ) → finish σ s ≡ refused 4 p → (s ≡ p) × (finish σ s ≡ refused 4 s)
too_early (between bs) s p e = never 4 p bs (sym e)
too_early (Parsing.naming bs n) s p e = (cc, refl)
too_early (body f) s p e = (cc, refl)
too_early (lefting f q ls) s p e = (cc, refl)
too_early (lefted h) s p e = (cc, refl)
too_early (begun h) s p e = (cc, refl)
too_early (side h r ph f t) s p e = (cc, refl)

misplaced_from : (S R : Stream) (p : ℕ) → WordFaults R → (σ : State) → Reached S σ R → parse R σ ≡ refused 4 p → Misplaced S p
unfolding parse
misplaced_from S (word s w R) p f σ x e = misplaced_on S σ s w R p (Parsing.step σ s w) (told σ s w) (λ T. refl) (misplaced_from S R p f) x e
misplaced_from S (over s) p f σ x e =
    let z = too_early σ s p e in
    record { read = x.read; rest = over s; reads = x.reads; before = subst Begins x.spelt (begins σ); stuck = (z.0, λ bs t. no_way S σ (over s) x [] (over s) 4 s bs refl refl z.1 (t ∙ sym (append-nil x.read))) }
misplaced_from S (broken n q) p f σ x e = let z : n ≡ 4 = cc in absurd (omega arith)

pub misplaced : (S : Stream) (p : ℕ) → WordFaults S → parse S (between []) ≡ refused 4 p → Misplaced S p
misplaced S p f e = misplaced_from S S p f (between []) (record { read = []; reads = refl; front = λ T. T; leads = λ T. refl; has = λ T. refl; whole = λ T. refl; spelt = refl; here = refl }) e

-- words that begin some tree's words lead to a state
record Leads (S R : Stream) (ws : List Word) : Type 0 where
  state : State
  reached : Reached S state R
  all : reached.read ≡ ws

leads_on : (S : Stream) (σ : State) (s : ℕ) (w : Word) (ws : List Word) (M R : Stream) (y : Step) → Told (spelled σ) w y → ((T : Stream) → parse (word s w T) σ ≡ follow y s (parse T)) → (x : Reached S σ (word s w M)) → (vs : List Word) (bs : List Block) → theory_words bs ≡ x.read ++ (w ∷ (ws ++ vs)) → ((τ : State) (z : Reached S τ M) → z.read ≡ x.read ++ w ∷ [] → Leads S R (x.read ++ (w ∷ ws))) → Leads S R (x.read ++ (w ∷ ws))
unfolding reached_more
leads_on S σ s w ws M R (go τ) t k x vs bs e m = m τ (reached_more S σ τ s w M x k t) refl
leads_on S σ s w ws M R (ends q y τ) t k x vs bs e m = m τ (reached_more S σ τ s w M x k t) refl
leads_on S σ s w ws M R bad t k x vs bs e m =
    absurd (no_way S σ (word s w M) x (w ∷ (ws ++ vs)) (word s w (in_a_row (ws ++ vs))) 4 s bs (in_a_row_intact (ws ++ vs)) (ap (λ (l : List Word). w ∷ l) (in_a_row_contents (ws ++ vs))) (k (in_a_row (ws ++ vs))) e)

leads_from : (ws : List Word) (S M R : Stream) (σ : State) (x : Reached S σ M) → Reads ws M R → (vs : List Word) (bs : List Block) → theory_words bs ≡ x.read ++ (ws ++ vs) → Leads S R (x.read ++ ws)
unfolding parse
leads_from [] S M R σ x r vs bs e = record { state = σ; reached = (subst (λ (T : Stream). (y : Reached S σ T) × (y.read ≡ x.read)) r (x, refl)).0; all = (subst (λ (T : Stream). (y : Reached S σ T) × (y.read ≡ x.read)) r (x, refl)).1 ∙ sym (append-nil x.read) }
leads_from (w ∷ ws) S M R σ x r vs bs e =
    let c = subst (λ (T : Stream). (y : Reached S σ T) × (y.read ≡ x.read)) r.1.1.0 (x, refl) in
    subst (λ (l : List Word). Leads S R (l ++ (w ∷ ws))) c.1
    (leads_on S σ r.0 w ws r.1.0 R (Parsing.step σ r.0 w) (told σ r.0 w) (λ T. refl) c.0 vs bs (e ∙ ap (λ (l : List Word). l ++ (w ∷ (ws ++ vs))) (sym c.1))
    (λ τ z q. subst (Leads S R) (ap (λ (l : List Word). l ++ ws) q ∙ append_assoc c.0.read (w ∷ []) ws) (leads_from ws S r.1.0 R τ z r.1.1.1 vs bs (e ∙ ap (λ (l : List Word). l ++ (w ∷ (ws ++ vs))) (sym c.1) ∙ sym (append_assoc c.0.read (w ∷ []) (ws ++ vs)) ∙ ap (λ (l : List Word). l ++ (ws ++ vs)) (sym q)))))

start : (S : Stream) → Reached S (between []) S
start S = record { read = []; reads = refl; front = λ T. T; leads = λ T. refl; has = λ T. refl; whole = λ T. refl; spelt = refl; here = refl }

stuck_on : (S : Stream) (σ : State) (s : ℕ) (w : Word) (R : Stream) (y : Step) → Told (spelled σ) w y → (Begins (spelled σ ++ w ∷ []) → ⊥) → follow y s (parse R) ≡ refused 4 s
stuck_on S σ s w R (go τ) t n = absurd (n (subst Begins t (begins τ)))
stuck_on S σ s w R (ends q y τ) t n = absurd (n (subst Begins t (begins τ)))
stuck_on S σ s w R bad t n = refl

early : (σ : State) (s : ℕ) → ((bs : List Block) → theory_words bs ≡ spelled σ → ⊥) → finish σ s ≡ refused 4 s
early (between bs) s n = absurd (n bs refl)
early (Parsing.naming bs n) s k = refl
early (body f) s k = refl
early (lefting f q ls) s k = refl
early (lefted h) s k = refl
early (begun h) s k = refl
early (side h r ph f t) s k = refl

stuck_refused : (S R : Stream) (σ : State) (ws : List Word) (p : ℕ) → spelled σ ≡ ws → Stuck ws R p → parse R σ ≡ refused 4 p
unfolding parse
stuck_refused S (word s w R) σ ws p e k = stuck_on S σ s w R (Parsing.step σ s w) (told σ s w) (subst (λ (l : List Word). Begins (l ++ w ∷ []) → ⊥) (sym e) k.1) ∙ ap (refused 4) k.0
stuck_refused S (over s) σ ws p e k = early σ s (λ bs t. k.1 bs (t ∙ e)) ∙ ap (refused 4) k.0
stuck_refused S (broken n s) σ ws p e k = absurd k

pub misplaced_refused : (S : Stream) (p : ℕ) → Misplaced S p → parse S (between []) ≡ refused 4 p
unfolding start
misplaced_refused S p m =
    let y = leads_from m.read S S m.rest (between []) (start S) m.reads m.before.more m.before.tree m.before.same in
    let z = y.reached in
    ap (λ (T : Stream). parse T (between [])) (sym z.here) ∙ z.leads m.rest
    ∙ stuck_refused S m.rest y.state m.read p (z.spelt ∙ y.all) m.stuck
