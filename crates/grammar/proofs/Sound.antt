-- Every word that is read is spelled by what was read.
use Rattle.std.proofs.Common.{◌≡◌, ℕ, Bool, true, false, cond, List, [], ◌∷◌, ◌++◌, Some, None, Option, sym, refl, ap, ◌∙◌, subst, append_assoc, append-nil, arith}
use Rattle.terms.specs.declared.items.Atom.{Atom}
use Rattle.terms.specs.declared.items.Quoting.TheVariants.{Plain as plain, Quoted as quoted}
use Rattle.terms.specs.Terms.{Terms, done, node, path}
use Rattle.grammar.specs.Trees.{Word, AtomName, NodeName, Less, Greater, Quote, Colon, Is, Stop, Open, Close, Stray, Block, atom_words, theory_words}
use Rattle.grammar.specs.Parsing
use Rattle.grammar.specs.Theorems.{contents, intact, Spells}
use Rattle.grammar.proofs.Spelled.{front_words, phase_words, side_read, spelled, equations_words_++, theory_words_++, atom_words_++, frame_words_then, only_atoms, cons_++}

-- a step from the words ws by w comes to a state that spells ws and w
abbrev pub Told : List Word → Word → Parsing.Step → Type 0
Told ws w (Parsing.go σ) = spelled σ ≡ ws ++ w ∷ []
Told ws w (Parsing.ends p x σ) = spelled σ ≡ ws ++ w ∷ []
Told ws w Parsing.bad = Unit {0}

told_close : (h : Parsing.Head) (r : Bool) (f : Parsing.Frames) (t : Terms) → Told (side_read h r f t) Greater (Parsing.on_close h r f t)
told_close h r Parsing.outside t = tt
told_close h r (Parsing.within p plain None b f) t = simp (append_assoc, cons_++)
told_close h r (Parsing.within p plain (Some n) b f) t = simp (frame_words_then, append_assoc, append-nil, cons_++)
told_close h r (Parsing.within p quoted n b f) t = simp (append_assoc, cons_++)

told_stop : (h : Parsing.Head) (r : Bool) (f : Parsing.Frames) (t : Terms) → Told (side_read h r f t) Stop (Parsing.on_stop h r f t)
told_stop h false Parsing.outside t = simp (theory_words_++, equations_words_++, append_assoc, append-nil, cons_++)
told_stop h true Parsing.outside t = tt
told_stop h false (Parsing.within p q n b f) t = tt
told_stop h true (Parsing.within p q n b f) t = tt

told_end : (h : Parsing.Head) (r : Bool) (f : Parsing.Frames) (t : Terms) → Told (side_read h r f t) Close (Parsing.on_end h r f t)
told_end h true Parsing.outside t = simp (equations_words_++, append_assoc, append-nil, cons_++)
told_end h false Parsing.outside t = tt
told_end h false (Parsing.within p q n b f) t = tt
told_end h true (Parsing.within p q n b f) t = tt

told_next : (h : Parsing.Head) (t : Terms) (p : ℕ) (i : Terms) (o : Option (List Atom)) → Parsing.atoms_of i ≡ o → Told (side_read h false Parsing.outside t ++ phase_words (Parsing.closed p i)) Is (Parsing.next_left h t p o)
told_next h t p i None e = tt
told_next h t p i (Some ls) e = simp (equations_words_++, only_atoms i ls e, append_assoc, append-nil, cons_++)

told_is : (h : Parsing.Head) (r : Bool) (f : Parsing.Frames) (t : Terms) (p : ℕ) (i : Terms) → Told (side_read h r f t ++ phase_words (Parsing.closed p i)) Is (Parsing.on_is h r f t p i)
told_is h false Parsing.outside t p i = told_next h t p i (Parsing.atoms_of i) refl
told_is h true Parsing.outside t p i = tt
told_is h false (Parsing.within p' q n b f) t p i = tt
told_is h true (Parsing.within p' q n b f) t p i = tt

told_term : (h : Parsing.Head) (r : Bool) (f : Parsing.Frames) (t : Terms) (s : ℕ) (w : Word) → Told (side_read h r f t) w (Parsing.at_term h r f t s w)
told_term h r f t s (AtomName a) = simp (frame_words_then, append_assoc, append-nil, cons_++)
told_term h r f t s (NodeName n) = refl
told_term h r f t s Less = simp (append_assoc, append-nil, cons_++)
told_term h r f t s Greater = told_close h r f t
told_term h r f t s Quote = refl
told_term h r f t s Colon = tt
told_term h r f t s Is = tt
told_term h r f t s Stop = told_stop h r f t
told_term h r f t s Open = tt
told_term h r f t s Close = told_end h r f t
told_term h r f t s Stray = tt

told_quoted : (h : Parsing.Head) (r : Bool) (f : Parsing.Frames) (t : Terms) (s : ℕ) (w : Word) → Told (side_read h r f t ++ Quote ∷ []) w (Parsing.at_quoted h r f t s w)
told_quoted h r f t s (AtomName a) = tt
told_quoted h r f t s (NodeName n) = simp (append_assoc, cons_++)
told_quoted h r f t s Less = simp (append_assoc, append-nil, cons_++)
told_quoted h r f t s Greater = tt
told_quoted h r f t s Quote = tt
told_quoted h r f t s Colon = tt
told_quoted h r f t s Is = tt
told_quoted h r f t s Stop = tt
told_quoted h r f t s Open = tt
told_quoted h r f t s Close = tt
told_quoted h r f t s Stray = tt

-- a test of a word: what is told where it is so, and where it is not
told_if : (is : Word → Bool) (ws : List Word) (w v : Word) (x y : Parsing.Step) → (is w ≡ true → w ≡ v) → Told ws v x → Told ws w y → Told ws w (cond (is w) x y)
told_if is ws w v x y only a b = at (is w) refl
  where
    at : (c : Bool) → is w ≡ c → Told ws w (cond c x y)
    at true e = subst (λ (u : Word). Told ws u x) (sym (only e)) a
    at false e = b

only_less : (w : Word) → Parsing.isLess w ≡ true → w ≡ Less
only_less (AtomName a) e = absurd (grind arith)
only_less (NodeName n) e = absurd (grind arith)
only_less Less e = refl
only_less Greater e = absurd (grind arith)
only_less Quote e = absurd (grind arith)
only_less Colon e = absurd (grind arith)
only_less Is e = absurd (grind arith)
only_less Stop e = absurd (grind arith)
only_less Open e = absurd (grind arith)
only_less Close e = absurd (grind arith)
only_less Stray e = absurd (grind arith)

only_quote : (w : Word) → Parsing.isQuote w ≡ true → w ≡ Quote
only_quote (AtomName a) e = absurd (grind arith)
only_quote (NodeName n) e = absurd (grind arith)
only_quote Less e = absurd (grind arith)
only_quote Greater e = absurd (grind arith)
only_quote Quote e = refl
only_quote Colon e = absurd (grind arith)
only_quote Is e = absurd (grind arith)
only_quote Stop e = absurd (grind arith)
only_quote Open e = absurd (grind arith)
only_quote Close e = absurd (grind arith)
only_quote Stray e = absurd (grind arith)

only_colon : (w : Word) → Parsing.isColon w ≡ true → w ≡ Colon
only_colon (AtomName a) e = absurd (grind arith)
only_colon (NodeName n) e = absurd (grind arith)
only_colon Less e = absurd (grind arith)
only_colon Greater e = absurd (grind arith)
only_colon Quote e = absurd (grind arith)
only_colon Colon e = refl
only_colon Is e = absurd (grind arith)
only_colon Stop e = absurd (grind arith)
only_colon Open e = absurd (grind arith)
only_colon Close e = absurd (grind arith)
only_colon Stray e = absurd (grind arith)

only_is : (w : Word) → Parsing.is_is w ≡ true → w ≡ Is
only_is (AtomName a) e = absurd (grind arith)
only_is (NodeName n) e = absurd (grind arith)
only_is Less e = absurd (grind arith)
only_is Greater e = absurd (grind arith)
only_is Quote e = absurd (grind arith)
only_is Colon e = absurd (grind arith)
only_is Is e = refl
only_is Stop e = absurd (grind arith)
only_is Open e = absurd (grind arith)
only_is Close e = absurd (grind arith)
only_is Stray e = absurd (grind arith)

only_open : (w : Word) → Parsing.isOpen w ≡ true → w ≡ Open
only_open (AtomName a) e = absurd (grind arith)
only_open (NodeName n) e = absurd (grind arith)
only_open Less e = absurd (grind arith)
only_open Greater e = absurd (grind arith)
only_open Quote e = absurd (grind arith)
only_open Colon e = absurd (grind arith)
only_open Is e = absurd (grind arith)
only_open Stop e = absurd (grind arith)
only_open Open e = refl
only_open Close e = absurd (grind arith)
only_open Stray e = absurd (grind arith)

-- words told of one list are told of an equal one
told_from : (ws vs : List Word) (w : Word) (x : Parsing.Step) → ws ≡ vs → Told ws w x → Told vs w x
told_from ws vs w x e t = subst (λ (l : List Word). Told l w x) e t

told_side : (h : Parsing.Head) (r : Bool) (ph : Parsing.Phase) (f : Parsing.Frames) (t : Terms) (s : ℕ) (w : Word) → Told (side_read h r f t ++ phase_words ph) w (Parsing.in_side h r ph f t s w)
told_side h r Parsing.ready f t s w = told_from _ _ w (Parsing.at_term h r f t s w) (sym (append-nil (side_read h r f t))) (told_term h r f t s w)
told_side h r (Parsing.noded n) f t s w =
    told_if Parsing.isColon _ w Colon _ _ (only_colon w) (simp (append_assoc, cons_++))
    (told_from _ _ w (Parsing.at_term h r f (Parsing.then t (node plain n done)) s w) (simp (frame_words_then, append_assoc, append-nil, cons_++)) (told_term h r f (Parsing.then t (node plain n done)) s w))
told_side h r (Parsing.closed p i) f t s w =
    told_if Parsing.is_is _ w Is _ _ (only_is w) (told_is h r f t p i)
    (told_from _ _ w (Parsing.at_term h r f (Parsing.then t (path plain None i done)) s w) (simp (frame_words_then, append_assoc, append-nil, cons_++)) (told_term h r f (Parsing.then t (path plain None i done)) s w))
told_side h r (Parsing.coloned plain n) f t s w = told_if Parsing.isLess _ w Less _ _ (only_less w) (simp (append_assoc, append-nil, cons_++)) tt
told_side h r (Parsing.coloned quoted n) f t s w = told_if Parsing.isLess _ w Less _ _ (only_less w) (simp (append_assoc, append-nil, cons_++)) tt
told_side h r Parsing.quoting f t s w = told_quoted h r f t s w
told_side h r (Parsing.quoted_node n) f t s w =
    told_if Parsing.isColon _ w Colon _ _ (only_colon w) (simp (append_assoc, cons_++))
    (told_if Parsing.isQuote _ w Quote _ _ (only_quote w) (simp (frame_words_then, append_assoc, append-nil, cons_++)) tt)
told_side h r (Parsing.unquoting n i) f t s w = told_if Parsing.isQuote _ w Quote _ _ (only_quote w) (simp (frame_words_then, append_assoc, append-nil, cons_++)) tt

told_block : (bs : List Block) (w : Word) → Told (theory_words bs) w (Parsing.at_block bs w)
told_block bs (AtomName a) = tt
told_block bs (NodeName n) = refl
told_block bs Less = tt
told_block bs Greater = tt
told_block bs Quote = tt
told_block bs Colon = tt
told_block bs Is = tt
told_block bs Stop = tt
told_block bs Open = tt
told_block bs Close = tt
told_block bs Stray = tt

told_equation : (f : Parsing.Front) (s : ℕ) (w : Word) → Told (front_words f) w (Parsing.at_equation f s w)
told_equation f s (AtomName a) = tt
told_equation f s (NodeName n) = tt
told_equation f s Less = refl
told_equation f s Greater = tt
told_equation f s Quote = tt
told_equation f s Colon = tt
told_equation f s Is = tt
told_equation f s Stop = simp (theory_words_++, append_assoc, append-nil, cons_++)
told_equation f s Open = tt
told_equation f s Close = tt
told_equation f s Stray = tt

told_left : (f : Parsing.Front) (p : ℕ) (ls : List Atom) (w : Word) → Told (front_words f ++ (Less ∷ atom_words ls)) w (Parsing.in_left f p ls w)
told_left f p ls (AtomName a) = simp (atom_words_++, append_assoc, cons_++)
told_left f p ls (NodeName n) = tt
told_left f p ls Less = tt
told_left f p ls Greater = simp (append_assoc, cons_++)
told_left f p ls Quote = tt
told_left f p ls Colon = tt
told_left f p ls Is = tt
told_left f p ls Stop = tt
told_left f p ls Open = tt
told_left f p ls Close = tt
told_left f p ls Stray = tt

pub told : (σ : Parsing.State) (s : ℕ) (w : Word) → Told (spelled σ) w (Parsing.step σ s w)
told (Parsing.between bs) s w = told_block bs w
told (Parsing.naming bs n) s w = told_if Parsing.isColon _ w Colon _ _ (only_colon w) (simp (append_assoc, append-nil, cons_++)) tt
told (Parsing.body f) s w = told_equation f s w
told (Parsing.lefting f p ls) s w = told_left f p ls w
told (Parsing.lefted h) s w = told_if Parsing.is_is _ w Is _ _ (only_is w) (simp (append_assoc, cons_++)) tt
told (Parsing.begun h) s w =
    told_if Parsing.isOpen _ w Open _ _ (only_open w) (simp (append_assoc, append-nil, cons_++))
    (told_from _ _ w (Parsing.at_term h false Parsing.outside done s w) (simp append-nil) (told_term h false Parsing.outside done s w))
told (Parsing.side h r ph f t) s w = told_side h r ph f t s w

-- what is accepted from a state spells what was read and what is left
record Says (ws : List Word) (S : Parsing.Stream) (bs : List Block) : Type 0 where
  unbroken : intact S ≡ true
  same : ws ++ contents S ≡ theory_words bs

pub never : {X : Type 0} (n p : ℕ) (bs : List Block) → Parsing.refused n p ≡ Parsing.accepted bs → X
never n p bs e = absurd (grind arith)

said_on : (ws vs : List Word) (s : ℕ) (w : Word) (S : Parsing.Stream) (bs : List Block) → vs ≡ ws ++ w ∷ [] → Says vs S bs → Says ws (Parsing.word s w S) bs
said_on ws vs s w S bs e x = record { unbroken = x.unbroken; same = sym (append_assoc ws (w ∷ []) (contents S)) ∙ ap (λ (l : List Word). l ++ contents S) (sym e) ∙ x.same }

says_on : (ws : List Word) (s : ℕ) (w : Word) (S : Parsing.Stream) (bs : List Block) (x : Parsing.Step) → Told ws w x → ((σ : Parsing.State) → Parsing.parse S σ ≡ Parsing.accepted bs → Says (spelled σ) S bs) → Parsing.follow x s (Parsing.parse S) ≡ Parsing.accepted bs → Says ws (Parsing.word s w S) bs
says_on ws s w S bs (Parsing.go σ) t k e = said_on ws (spelled σ) s w S bs t (k σ e)
says_on ws s w S bs (Parsing.ends p x σ) t k e = said_on ws (spelled σ) s w S bs t (k σ e)
says_on ws s w S bs Parsing.bad t k e = never 4 s bs e

at_end : (σ : Parsing.State) (s : ℕ) (bs : List Block) → Parsing.finish σ s ≡ Parsing.accepted bs → spelled σ ++ [] ≡ theory_words bs
at_end (Parsing.between cs) s bs e = let z : cs ≡ bs = cc in append-nil (theory_words cs) ∙ ap theory_words z
at_end (Parsing.naming cs n) s bs e = never 4 s bs e
at_end (Parsing.body f) s bs e = never 4 s bs e
at_end (Parsing.lefting f p ls) s bs e = never 4 s bs e
at_end (Parsing.lefted h) s bs e = never 4 s bs e
at_end (Parsing.begun h) s bs e = never 4 s bs e
at_end (Parsing.side h r ph f t) s bs e = never 4 s bs e

says : (S : Parsing.Stream) (bs : List Block) (σ : Parsing.State) → Parsing.parse S σ ≡ Parsing.accepted bs → Says (spelled σ) S bs
unfolding Parsing.parse
says (Parsing.word s w S) bs σ e = says_on (spelled σ) s w S bs (Parsing.step σ s w) (told σ s w) (says S bs) e
says (Parsing.over s) bs σ e = record { unbroken = refl; same = at_end σ s bs e }
says (Parsing.broken n p) bs σ e = never n p bs e

pub sound : (S : Parsing.Stream) (bs : List Block) → Parsing.parse S (Parsing.between []) ≡ Parsing.accepted bs → Spells bs S
sound S bs e = let x = says S bs (Parsing.between []) e in record { unbroken = x.unbroken; same = x.same }
