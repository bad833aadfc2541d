-- The words that were read to come to a state.
use Rattle.std.proofs.Common.{◌≡◌, Bool, true, false, List, [], ◌∷◌, ◌++◌, Some, None, Option, sym, refl, ap, ◌∙◌, append_assoc, arith}
use Rattle.terms.specs.declared.items.Atom.{Atom}
use Rattle.terms.specs.declared.items.Quoting.TheVariants.{Plain as plain, Quoted as quoted}
use Rattle.terms.specs.Terms.{Terms, done, atom, node, path}
use Rattle.grammar.specs.Trees.{Word, AtomName, NodeName, Less, Greater, Quote, Colon, Is, Open, Equation, Block, words, opens, atom_words, equations_words, theory_words}
use Rattle.grammar.specs.Parsing

abbrev pub front_words : Parsing.Front → List Word
front_words f = theory_words f.blocks ++ (NodeName f.name ∷ Colon ∷ equations_words f.equations)

abbrev pub head_words : Parsing.Head → List Word
head_words h = front_words h.front ++ (Less ∷ (atom_words h.left ++ (Greater ∷ Is ∷ [])))

abbrev pub round_words : Bool → List Word
round_words false = []
round_words true = Open ∷ []

abbrev pub frame_words : Parsing.Frames → Terms → List Word
frame_words Parsing.outside t = words t
frame_words (Parsing.within p q n b f) t = frame_words f b ++ (opens q n ++ words t)

abbrev pub phase_words : Parsing.Phase → List Word
phase_words Parsing.ready = []
phase_words (Parsing.noded n) = NodeName n ∷ []
phase_words (Parsing.closed p i) = Less ∷ (words i ++ Greater ∷ [])
phase_words (Parsing.coloned plain n) = NodeName n ∷ Colon ∷ []
phase_words (Parsing.coloned quoted n) = Quote ∷ NodeName n ∷ Colon ∷ []
phase_words Parsing.quoting = Quote ∷ []
phase_words (Parsing.quoted_node n) = Quote ∷ NodeName n ∷ []
phase_words (Parsing.unquoting n i) = opens quoted n ++ (words i ++ Greater ∷ [])

abbrev pub side_read : Parsing.Head → Bool → Parsing.Frames → Terms → List Word
side_read h r f t = head_words h ++ (round_words r ++ frame_words f t)

abbrev pub spelled : Parsing.State → List Word
spelled (Parsing.between bs) = theory_words bs
spelled (Parsing.naming bs n) = theory_words bs ++ NodeName n ∷ []
spelled (Parsing.body f) = front_words f
spelled (Parsing.lefting f p ls) = front_words f ++ (Less ∷ atom_words ls)
spelled (Parsing.lefted h) = front_words h.front ++ (Less ∷ (atom_words h.left ++ Greater ∷ []))
spelled (Parsing.begun h) = head_words h
spelled (Parsing.side h r ph f t) = side_read h r f t ++ phase_words ph

pub cons_++ : (w : Word) (l m : List Word) → (w ∷ l) ++ m ≡ w ∷ (l ++ m)
cons_++ w l m = refl

pub words_then : (t u : Terms) → words (Parsing.then t u) ≡ words t ++ words u
words_then done u = refl
words_then (atom a rest) u = ap (λ (l : List Word). AtomName a ∷ l) (words_then rest u)
words_then (node q n rest) u = simp (words_then rest u, append_assoc)
words_then (path q n i rest) u = simp (words_then rest u, append_assoc)

pub equations_words_++ : (es fs : List Equation) → equations_words (es ++ fs) ≡ equations_words es ++ equations_words fs
equations_words_++ [] fs = refl
equations_words_++ (e ∷ es) fs = simp (equations_words_++ es fs, append_assoc)

pub theory_words_++ : (bs cs : List Block) → theory_words (bs ++ cs) ≡ theory_words bs ++ theory_words cs
theory_words_++ [] cs = refl
theory_words_++ (b ∷ bs) cs = simp (theory_words_++ bs cs, append_assoc)

pub atom_words_++ : (ls ms : List Atom) → atom_words (ls ++ ms) ≡ atom_words ls ++ atom_words ms
atom_words_++ [] ms = refl
atom_words_++ (a ∷ ls) ms = ap (λ (l : List Word). AtomName a ∷ l) (atom_words_++ ls ms)

pub frame_words_then : (f : Parsing.Frames) (t u : Terms) → frame_words f (Parsing.then t u) ≡ frame_words f t ++ words u
frame_words_then Parsing.outside t u = words_then t u
frame_words_then (Parsing.within p q n b f) t u = simp (words_then t u, append_assoc)

pub more : (a : Atom) (o : Option (List Atom)) (ls : List Atom) → Parsing.more_atoms a o ≡ Some ls → (ms : List Atom) × ((o ≡ Some ms) × (ls ≡ a ∷ ms))
more a None ls e = absurd (grind arith)
more a (Some ms) ls e = (ms, (refl, cc))

pub only_atoms : (t : Terms) (ls : List Atom) → Parsing.atoms_of t ≡ Some ls → words t ≡ atom_words ls
only_atoms done ls e = let z : [] ≡ ls = cc in ap atom_words z
only_atoms (atom a rest) ls e = let m = more a (Parsing.atoms_of rest) ls e in ap (λ (l : List Word). AtomName a ∷ l) (only_atoms rest m.0 m.1.0) ∙ ap atom_words (sym m.1.1)
only_atoms (node q n rest) ls e = absurd (grind arith)
only_atoms (path q n i rest) ls e = absurd (grind arith)
