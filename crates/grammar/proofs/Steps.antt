-- What a step keeps: the sentences, and how deep paths nest.
use Rattle.std.proofs.Common.{◌≡◌, ℕ, suc, ◌+◌, ◌≤◌, max, Bool, true, false, cond, List, [], ◌∷◌, ◌++◌, Some, None, Option, refl, ap, ◌∙◌, subst, append_assoc, append-nil, arith}
use Rattle.terms.specs.declared.items.Node.{Node}
use Rattle.terms.specs.declared.items.Atom.{Atom}
use Rattle.terms.specs.declared.items.Quoting.TheVariants.{Plain as plain, Quoted as quoted}
use Rattle.terms.specs.Terms.{Terms, done, atom, node, path, nesting}
use Rattle.stores.specs.Sentences.{Sentence}
use Rattle.grammar.specs.Trees.{Word, AtomName, NodeName, Less, Greater, Quote, Colon, Is, Stop, Open, Close, Stray, Equation, Block, sentence, sentences, block_sentences, equations_nesting, theory_nesting}
use Rattle.grammar.specs.Parsing
use Rattle.grammar.proofs.Spelled.{more}
use Rattle.grammar.specs.Parsing.{Head, Front, Frames, outside, within, side, ready, then, between, begun, body, lefting, lefted, State, Step, go, ends, bad, open_paths, depth, so_far, front_sentences}

abbrev pub frames_deep : Frames → Terms → ℕ
frames_deep outside t = nesting t
frames_deep (within p q n b f) t = max (frames_deep f b) (suc (open_paths f) + nesting t)

abbrev pub phase_deep : ℕ → Parsing.Phase → ℕ
phase_deep l Parsing.ready = 0
phase_deep l (Parsing.noded n) = 0
phase_deep l (Parsing.closed p i) = l + suc (nesting i)
phase_deep l (Parsing.coloned q n) = 0
phase_deep l Parsing.quoting = 0
phase_deep l (Parsing.quoted_node n) = 0
phase_deep l (Parsing.unquoting n i) = l + suc (nesting i)

abbrev pub front_deep : Front → ℕ
front_deep f = max (theory_nesting f.blocks) (equations_nesting f.equations)

-- how deep paths nest in what was read
abbrev pub deep : State → ℕ
deep (between bs) = theory_nesting bs
deep (Parsing.naming bs n) = theory_nesting bs
deep (body f) = front_deep f
deep (lefting f p ls) = front_deep f
deep (lefted h) = front_deep h.front
deep (begun h) = front_deep h.front
deep (side h r ph f t) = max (front_deep h.front) (max (frames_deep f t) (phase_deep (open_paths f) ph))

-- with what nested d deep before, a step nests more than four deep exactly if it opens a fifth path
pub record Deeper (d : ℕ) (σ : State) : Type 0 where
  pub was : deep σ ≤ 4 → d ≤ 4
  pub opened : deep σ ≤ 4 → depth σ ≤ 4
  pub is : d ≤ 4 → depth σ ≤ 4 → deep σ ≤ 4

abbrev pub Well : List Sentence → ℕ → Step → Type 0
Well kept d (go σ) = (so_far σ ≡ kept) × Deeper d σ
Well kept d (ends p x σ) = (so_far σ ≡ kept ++ x ∷ []) × Deeper d σ
Well kept d bad = Unit {0}

nesting_then : (t u : Terms) → nesting (then t u) ≡ max (nesting t) (nesting u)
nesting_then done u = omega arith
nesting_then (atom a t) u = nesting_then t u
nesting_then (node q n t) u = nesting_then t u
nesting_then (path q n i t) u = let e = nesting_then t u in omega arith

frames_then : (f : Frames) (t u : Terms) → frames_deep f (then t u) ≡ max (frames_deep f t) (open_paths f + nesting u)
frames_then outside t u = let e = nesting_then t u in omega arith
frames_then (within p q n b f) t u = let e = nesting_then t u in omega arith

level : (f : Frames) (t : Terms) → open_paths f + nesting t ≤ frames_deep f t
level outside t = omega arith
level (within p q n b f) t = omega arith

equations_nesting_++ : (es fs : List Equation) → equations_nesting (es ++ fs) ≡ max (equations_nesting es) (equations_nesting fs)
equations_nesting_++ [] fs = omega arith
equations_nesting_++ (e ∷ es) fs = let x = equations_nesting_++ es fs in omega arith

theory_nesting_++ : (bs cs : List Block) → theory_nesting (bs ++ cs) ≡ max (theory_nesting bs) (theory_nesting cs)
theory_nesting_++ [] cs = omega arith
theory_nesting_++ (b ∷ bs) cs = let x = theory_nesting_++ bs cs in omega arith

block_sentences_++ : (n : Node) (es fs : List Equation) → block_sentences n (es ++ fs) ≡ block_sentences n es ++ block_sentences n fs
block_sentences_++ n [] fs = refl
block_sentences_++ n (e ∷ es) fs = ap (λ (l : List Sentence). sentence n e ∷ l) (block_sentences_++ n es fs)

sentences_++ : (bs cs : List Block) → sentences (bs ++ cs) ≡ sentences bs ++ sentences cs
sentences_++ [] cs = refl
sentences_++ (b ∷ bs) cs = simp (sentences_++ bs cs, append_assoc)

flat_atoms : (t : Terms) (ls : List Atom) → Parsing.atoms_of t ≡ Some ls → nesting t ≡ 0
flat_atoms done ls e = refl
flat_atoms (atom a t) ls e = let m = more a (Parsing.atoms_of t) ls e in flat_atoms t m.0 m.1.0
flat_atoms (node q n t) ls e = absurd (grind arith)
flat_atoms (path q n i t) ls e = absurd (grind arith)

-- the front with an equation more
module _ (h : Head) (r : Bool) (t : Terms) where
  pub more_said : front_sentences (Parsing.with_equation h r t) ≡ front_sentences h.front ++ Parsing.said h r t ∷ []
  more_said = simp (block_sentences_++, append_assoc)

  more_deep : front_deep (Parsing.with_equation h r t) ≡ max (front_deep h.front) (nesting t)
  more_deep = let e = equations_nesting_++ h.front.equations (Parsing.equation h r t ∷ []) in omega arith

pub whole_said : (f : Front) → sentences (Parsing.whole f) ≡ front_sentences f
whole_said f = simp (sentences_++, append-nil)

whole_deep : (f : Front) → theory_nesting (Parsing.whole f) ≡ front_deep f
whole_deep f = let e = theory_nesting_++ f.blocks (Parsing.block f ∷ []) in omega arith

abbrev d_at : Head → Frames → Terms → ℕ
d_at h f t = max (front_deep h.front) (frames_deep f t)

abbrev kept_at : Head → List Sentence
kept_at h = front_sentences h.front

well_close : (h : Head) (r : Bool) (f : Frames) (t : Terms) → Well (kept_at h) (d_at h f t) (Parsing.on_close h r f t)
well_close h r outside t = tt
well_close h r (within p plain None b f) t = let l = level f b in (refl, omega arith)
well_close h r (within p plain (Some n) b f) t = let l = level f b in let e = frames_then f b (path plain (Some n) t done) in (refl, omega arith)
well_close h r (within p quoted n b f) t = let l = level f b in (refl, omega arith)

well_stop : (h : Head) (r : Bool) (f : Frames) (t : Terms) → Well (kept_at h) (d_at h f t) (Parsing.on_stop h r f t)
well_stop h false outside t = let g = Parsing.with_equation h false t in let e = more_deep h false t in let e' = whole_deep g in (whole_said g ∙ more_said h false t, omega arith)
well_stop h true outside t = tt
well_stop h false (within p q n b f) t = tt
well_stop h true (within p q n b f) t = tt

well_end : (h : Head) (r : Bool) (f : Frames) (t : Terms) → Well (kept_at h) (d_at h f t) (Parsing.on_end h r f t)
well_end h true outside t = let e = more_deep h true t in (more_said h true t, omega arith)
well_end h false outside t = tt
well_end h false (within p q n b f) t = tt
well_end h true (within p q n b f) t = tt

well_next : (h : Head) (t : Terms) (p : ℕ) (i : Terms) (o : Option (List Atom)) → Parsing.atoms_of i ≡ o → Well (kept_at h) (max (front_deep h.front) (max (nesting t) (0 + suc (nesting i)))) (Parsing.next_left h t p o)
well_next h t p i None x = tt
well_next h t p i (Some ls) x = let e = more_deep h false t in let z = flat_atoms i ls x in (more_said h false t, omega arith)

well_is : (h : Head) (r : Bool) (f : Frames) (t : Terms) (p : ℕ) (i : Terms) → Well (kept_at h) (max (front_deep h.front) (max (frames_deep f t) (open_paths f + suc (nesting i)))) (Parsing.on_is h r f t p i)
well_is h false outside t p i = well_next h t p i (Parsing.atoms_of i) refl
well_is h true outside t p i = tt
well_is h false (within p' q n b f) t p i = tt
well_is h true (within p' q n b f) t p i = tt

well_term : (h : Head) (r : Bool) (f : Frames) (t : Terms) (s : ℕ) (w : Word) → Well (kept_at h) (d_at h f t) (Parsing.at_term h r f t s w)
well_term h r f t s (AtomName a) = let l = level f t in let e = frames_then f t (atom a done) in (refl, omega arith)
well_term h r f t s (NodeName n) = let l = level f t in (refl, omega arith)
well_term h r f t s Less = let l = level f t in (refl, omega arith)
well_term h r f t s Greater = well_close h r f t
well_term h r f t s Quote = let l = level f t in (refl, omega arith)
well_term h r f t s Colon = tt
well_term h r f t s Is = tt
well_term h r f t s Stop = well_stop h r f t
well_term h r f t s Open = tt
well_term h r f t s Close = well_end h r f t
well_term h r f t s Stray = tt

well_if : (kept : List Sentence) (d : ℕ) (c : Bool) (x y : Step) → Well kept d x → Well kept d y → Well kept d (cond c x y)
well_if kept d true x y a b = a
well_if kept d false x y a b = b

-- nothing but whole terms is deeper than the terms
well_from : (kept : List Sentence) (d e : ℕ) (x : Step) → d ≡ e → Well kept d x → Well kept e x
well_from kept d e x p a = subst (λ (k : ℕ). Well kept k x) p a

well_quoted : (h : Head) (r : Bool) (f : Frames) (t : Terms) (s : ℕ) (w : Word) → Well (kept_at h) (max (front_deep h.front) (max (frames_deep f t) 0)) (Parsing.at_quoted h r f t s w)
well_quoted h r f t s (AtomName a) = tt
well_quoted h r f t s (NodeName n) = let l = level f t in (refl, omega arith)
well_quoted h r f t s Less = let l = level f t in (refl, omega arith)
well_quoted h r f t s Greater = tt
well_quoted h r f t s Quote = tt
well_quoted h r f t s Colon = tt
well_quoted h r f t s Is = tt
well_quoted h r f t s Stop = tt
well_quoted h r f t s Open = tt
well_quoted h r f t s Close = tt
well_quoted h r f t s Stray = tt

well_side : (h : Head) (r : Bool) (ph : Parsing.Phase) (f : Frames) (t : Terms) (s : ℕ) (w : Word) → Well (kept_at h) (deep (side h r ph f t)) (Parsing.in_side h r ph f t s w)
well_side h r Parsing.ready f t s w = well_from _ _ _ (Parsing.at_term h r f t s w) (omega arith) (well_term h r f t s w)
well_side h r (Parsing.noded n) f t s w =
    let l = level f t in let e = frames_then f t (node plain n done) in
    well_if _ _ (Parsing.isColon w) _ _ (refl, omega arith)
    (well_from _ _ _ (Parsing.at_term h r f (then t (node plain n done)) s w) (omega arith) (well_term h r f (then t (node plain n done)) s w))
well_side h r (Parsing.closed p i) f t s w =
    let l = level f t in let e = frames_then f t (path plain None i done) in
    well_if _ _ (Parsing.is_is w) _ _ (well_is h r f t p i)
    (well_from _ _ _ (Parsing.at_term h r f (then t (path plain None i done)) s w) (omega arith) (well_term h r f (then t (path plain None i done)) s w))
well_side h r (Parsing.coloned q n) f t s w = let l = level f t in well_if _ _ (Parsing.isLess w) _ _ (refl, omega arith) tt
well_side h r Parsing.quoting f t s w = well_quoted h r f t s w
well_side h r (Parsing.quoted_node n) f t s w =
    let l = level f t in let e = frames_then f t (node quoted n done) in
    well_if _ _ (Parsing.isColon w) _ _ (refl, omega arith) (well_if _ _ (Parsing.isQuote w) _ _ (refl, omega arith) tt)
well_side h r (Parsing.unquoting n i) f t s w =
    let l = level f t in let e = frames_then f t (path quoted n i done) in
    well_if _ _ (Parsing.isQuote w) _ _ (refl, omega arith) tt

well_block : (bs : List Block) (w : Word) → Well (sentences bs) (theory_nesting bs) (Parsing.at_block bs w)
well_block bs (AtomName a) = tt
well_block bs (NodeName n') = (refl, omega arith)
well_block bs Less = tt
well_block bs Greater = tt
well_block bs Quote = tt
well_block bs Colon = tt
well_block bs Is = tt
well_block bs Stop = tt
well_block bs Open = tt
well_block bs Close = tt
well_block bs Stray = tt

well_equation : (f : Front) (s : ℕ) (w : Word) → Well (front_sentences f) (front_deep f) (Parsing.at_equation f s w)
well_equation f s (AtomName a) = tt
well_equation f s (NodeName n') = tt
well_equation f s Less = (refl, omega arith)
well_equation f s Greater = tt
well_equation f s Quote = tt
well_equation f s Colon = tt
well_equation f s Is = tt
well_equation f s Stop = let e = whole_deep f in (whole_said f, omega arith)
well_equation f s Open = tt
well_equation f s Close = tt
well_equation f s Stray = tt

well_left : (f : Front) (p : ℕ) (ls : List Atom) (w : Word) → Well (front_sentences f) (front_deep f) (Parsing.in_left f p ls w)
well_left f p ls (AtomName a) = (refl, omega arith)
well_left f p ls (NodeName n') = tt
well_left f p ls Less = tt
well_left f p ls Greater = (refl, omega arith)
well_left f p ls Quote = tt
well_left f p ls Colon = tt
well_left f p ls Is = tt
well_left f p ls Stop = tt
well_left f p ls Open = tt
well_left f p ls Close = tt
well_left f p ls Stray = tt

pub well : (σ : State) (s : ℕ) (w : Word) → Well (so_far σ) (deep σ) (Parsing.step σ s w)
well (between bs) s w = well_block bs w
well (Parsing.naming bs n) s w = well_if _ _ (Parsing.isColon w) _ _ (append-nil (sentences bs), omega arith) tt
well (body f) s w = well_equation f s w
well (lefting f p ls) s w = well_left f p ls w
well (lefted h) s w = well_if _ _ (Parsing.is_is w) _ _ (refl, omega arith) tt
well (begun h) s w =
    well_if _ _ (Parsing.isOpen w) _ _ (refl, omega arith)
    (well_from _ _ _ (Parsing.at_term h false outside done s w) (omega arith) (well_term h false outside done s w))
well (side h r ph f t) s w = well_side h r ph f t s w
