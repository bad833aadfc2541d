-- The grammar word by word, without limits: what each word makes of what was read.
use Rattle.std.specs.Prelude.{ℕ, suc, Bool, true, false, cond, List, [], ◌∷◌, ◌++◌, Some, None, Option}
use Rattle.terms.specs.declared.items.Node.{Node}
use Rattle.terms.specs.declared.items.Atom.{Atom}
use Rattle.terms.specs.declared.items.Quoting.{Quoting}
use Rattle.terms.specs.declared.items.Quoting.TheVariants.{Plain as plain, Quoted as quoted}
use Rattle.terms.specs.Terms.{Terms, done, atom, node, path}
use Rattle.stores.specs.Sentences.{Sentence}
use Rattle.grammar.specs.Trees.{Word, AtomName, NodeName, Less, Greater, Quote, Colon, Is, Stop, Open, Close, Stray, Equation, Block, sentence, sentences, block_sentences}

-- words with their places, up to the text's end or the first fault of a word
pub data Stream : Type 0 where
  word : ℕ → Word → Stream → Stream
  over : ℕ → Stream
  broken : ℕ → ℕ → Stream

-- one list of terms behind another
abbrev pub then : Terms → Terms → Terms
then done u = u
then (atom a rest) u = atom a (then rest u)
then (node q n rest) u = node q n (then rest u)
then (path q n inside rest) u = path q n inside (then rest u)

-- the atoms of a list of terms that has nothing else
abbrev pub more_atoms : Atom → Option (List Atom) → Option (List Atom)
more_atoms a None = None
more_atoms a (Some ls) = Some (a ∷ ls)

abbrev pub atoms_of : Terms → Option (List Atom)
atoms_of done = Some []
atoms_of (atom a rest) = more_atoms a (atoms_of rest)
atoms_of (node q n rest) = None
atoms_of (path q n inside rest) = None

-- The open paths, innermost first: each with the place of its <, its quoting and node, and the terms that stand before it in its list.
pub data Frames : Type 0 where
  outside : Frames
  within : ℕ → Quoting → Option Node → Terms → Frames → Frames

-- What the words since the last whole term have begun.
pub data Phase : Type 0 where
  ready : Phase  -- nothing
  noded : Node → Phase  -- N: a term, unless : follows
  closed : ℕ → Terms → Phase  -- <T> with its place: a term, unless == follows
  coloned : Quoting → Node → Phase  -- N: or "N:
  quoting : Phase  -- "
  quoted_node : Node → Phase  -- "N
  unquoting : Option Node → Terms → Phase  -- "<T> or "N:<T>

-- the blocks that are whole, and the open block's node and whole equations
pub record Front : Type 0 where
  pub blocks : List Block
  pub name : Node
  pub equations : List Equation

-- the open equation's left path with the place of its <
pub record Head : Type 0 where
  pub front : Front
  pub place : ℕ
  pub left : List Atom

-- What was read.
pub data State : Type 0 where
  between : List Block → State  -- whole blocks
  naming : List Block → Node → State  -- a block's node
  body : Front → State  -- whole equations: another or a full stop has to come
  lefting : Front → ℕ → List Atom → State  -- < and atoms
  lefted : Head → State  -- a left path
  begun : Head → State  -- a left path and ==
  side : Head → Bool → Phase → Frames → Terms → State  -- and terms, after ( where the Bool is true

-- what a word does: it goes on; a sentence, with its left path's place, ends; or no text has it there
pub data Step : Type 0 where
  go : State → Step
  ends : ℕ → Sentence → State → Step
  bad : Step

abbrev pub isLess : Word → Bool
isLess (AtomName a) = false
isLess (NodeName n) = false
isLess Less = true
isLess Greater = false
isLess Quote = false
isLess Colon = false
isLess Is = false
isLess Stop = false
isLess Open = false
isLess Close = false
isLess Stray = false

abbrev pub isQuote : Word → Bool
isQuote (AtomName a) = false
isQuote (NodeName n) = false
isQuote Less = false
isQuote Greater = false
isQuote Quote = true
isQuote Colon = false
isQuote Is = false
isQuote Stop = false
isQuote Open = false
isQuote Close = false
isQuote Stray = false

abbrev pub isColon : Word → Bool
isColon (AtomName a) = false
isColon (NodeName n) = false
isColon Less = false
isColon Greater = false
isColon Quote = false
isColon Colon = true
isColon Is = false
isColon Stop = false
isColon Open = false
isColon Close = false
isColon Stray = false

abbrev pub is_is : Word → Bool
is_is (AtomName a) = false
is_is (NodeName n) = false
is_is Less = false
is_is Greater = false
is_is Quote = false
is_is Colon = false
is_is Is = true
is_is Stop = false
is_is Open = false
is_is Close = false
is_is Stray = false

abbrev pub isOpen : Word → Bool
isOpen (AtomName a) = false
isOpen (NodeName n) = false
isOpen Less = false
isOpen Greater = false
isOpen Quote = false
isOpen Colon = false
isOpen Is = false
isOpen Stop = false
isOpen Open = true
isOpen Close = false
isOpen Stray = false

abbrev pub equation : Head → Bool → Terms → Equation
equation h r t = record { left = h.left; round = r; right = t }

-- the front with one more equation
abbrev pub with_equation : Head → Bool → Terms → Front
with_equation h r t = record { blocks = h.front.blocks; name = h.front.name; equations = h.front.equations ++ equation h r t ∷ [] }

abbrev pub block : Front → Block
block f = record { name = f.name; equations = f.equations }

abbrev pub whole : Front → List Block
whole f = f.blocks ++ block f ∷ []

abbrev pub said : Head → Bool → Terms → Sentence
said h r t = sentence h.front.name (equation h r t)

abbrev pub on_close : Head → Bool → Frames → Terms → Step
on_close h r outside t = bad
on_close h r (within p plain None b f) t = go (side h r (closed p t) f b)
on_close h r (within p plain (Some n) b f) t = go (side h r ready f (then b (path plain (Some n) t done)))
on_close h r (within p quoted n b f) t = go (side h r (unquoting n t) f b)

abbrev pub on_stop : Head → Bool → Frames → Terms → Step
on_stop h false outside t = ends h.place (said h false t) (between (whole (with_equation h false t)))
on_stop h true outside t = bad
on_stop h r (within p q n b f) t = bad

abbrev pub on_end : Head → Bool → Frames → Terms → Step
on_end h true outside t = ends h.place (said h true t) (body (with_equation h true t))
on_end h false outside t = bad
on_end h r (within p q n b f) t = bad

-- the path behind the terms t begins the next equation, if it has only atoms
abbrev pub next_left : Head → Terms → ℕ → Option (List Atom) → Step
next_left h t p None = bad
next_left h t p (Some ls) = ends h.place (said h false t) (begun (record { front = with_equation h false t; place = p; left = ls }))

abbrev pub on_is : Head → Bool → Frames → Terms → ℕ → Terms → Step
on_is h false outside t p inside = next_left h t p (atoms_of inside)
on_is h true outside t p inside = bad
on_is h r (within p' q n b f) t p inside = bad

-- a word where a term may begin
abbrev pub at_term : Head → Bool → Frames → Terms → ℕ → Word → Step
at_term h r f t s (AtomName a) = go (side h r ready f (then t (atom a done)))
at_term h r f t s (NodeName n) = go (side h r (noded n) f t)
at_term h r f t s Less = go (side h r ready (within s plain None t f) done)
at_term h r f t s Greater = on_close h r f t
at_term h r f t s Quote = go (side h r quoting f t)
at_term h r f t s Colon = bad
at_term h r f t s Is = bad
at_term h r f t s Stop = on_stop h r f t
at_term h r f t s Open = bad
at_term h r f t s Close = on_end h r f t
at_term h r f t s Stray = bad

-- a word behind "
abbrev pub at_quoted : Head → Bool → Frames → Terms → ℕ → Word → Step
at_quoted h r f t s (AtomName a) = bad
at_quoted h r f t s (NodeName n) = go (side h r (quoted_node n) f t)
at_quoted h r f t s Less = go (side h r ready (within s quoted None t f) done)
at_quoted h r f t s Greater = bad
at_quoted h r f t s Quote = bad
at_quoted h r f t s Colon = bad
at_quoted h r f t s Is = bad
at_quoted h r f t s Stop = bad
at_quoted h r f t s Open = bad
at_quoted h r f t s Close = bad
at_quoted h r f t s Stray = bad

abbrev pub in_side : Head → Bool → Phase → Frames → Terms → ℕ → Word → Step
in_side h r ready f t s w = at_term h r f t s w
in_side h r (noded n) f t s w = cond (isColon w) (go (side h r (coloned plain n) f t)) (at_term h r f (then t (node plain n done)) s w)
in_side h r (closed p i) f t s w = cond (is_is w) (on_is h r f t p i) (at_term h r f (then t (path plain None i done)) s w)
in_side h r (coloned q n) f t s w = cond (isLess w) (go (side h r ready (within s q (Some n) t f) done)) bad
in_side h r quoting f t s w = at_quoted h r f t s w
in_side h r (quoted_node n) f t s w = cond (isColon w) (go (side h r (coloned quoted n) f t)) (cond (isQuote w) (go (side h r ready f (then t (node quoted n done)))) bad)
in_side h r (unquoting n i) f t s w = cond (isQuote w) (go (side h r ready f (then t (path quoted n i done)))) bad

-- a word where a block may begin
abbrev pub at_block : List Block → Word → Step
at_block bs (AtomName a) = bad
at_block bs (NodeName n) = go (naming bs n)
at_block bs Less = bad
at_block bs Greater = bad
at_block bs Quote = bad
at_block bs Colon = bad
at_block bs Is = bad
at_block bs Stop = bad
at_block bs Open = bad
at_block bs Close = bad
at_block bs Stray = bad

abbrev pub at_equation : Front → ℕ → Word → Step
at_equation f s (AtomName a) = bad
at_equation f s (NodeName n) = bad
at_equation f s Less = go (lefting f s [])
at_equation f s Greater = bad
at_equation f s Quote = bad
at_equation f s Colon = bad
at_equation f s Is = bad
at_equation f s Stop = go (between (whole f))
at_equation f s Open = bad
at_equation f s Close = bad
at_equation f s Stray = bad

abbrev pub in_left : Front → ℕ → List Atom → Word → Step
in_left f p ls (AtomName a) = go (lefting f p (ls ++ a ∷ []))
in_left f p ls (NodeName n) = bad
in_left f p ls Less = bad
in_left f p ls Greater = go (lefted (record { front = f; place = p; left = ls }))
in_left f p ls Quote = bad
in_left f p ls Colon = bad
in_left f p ls Is = bad
in_left f p ls Stop = bad
in_left f p ls Open = bad
in_left f p ls Close = bad
in_left f p ls Stray = bad

abbrev pub step : State → ℕ → Word → Step
step (between bs) s w = at_block bs w
step (naming bs n) s w = cond (isColon w) (go (body (record { blocks = bs; name = n; equations = [] }))) bad
step (body f) s w = at_equation f s w
step (lefting f p ls) s w = in_left f p ls w
step (lefted h) s w = cond (is_is w) (go (begun h)) bad
step (begun h) s w = cond (isOpen w) (go (side h true ready outside done)) (at_term h false outside done s w)
step (side h r ph f t) s w = in_side h r ph f t s w

pub data Outcome : Type 0 where
  accepted : List Block → Outcome
  refused : ℕ → ℕ → Outcome

-- at the text's end
abbrev pub finish : State → ℕ → Outcome
finish (between bs) s = accepted bs
finish (naming bs n) s = refused 4 s
finish (body f) s = refused 4 s
finish (lefting f p ls) s = refused 4 s
finish (lefted h) s = refused 4 s
finish (begun h) s = refused 4 s
finish (side h r ph f t) s = refused 4 s

abbrev pub follow : Step → ℕ → (State → Outcome) → Outcome
follow (go σ) s k = k σ
follow (ends p x σ) s k = k σ
follow bad s k = refused 4 s

-- the grammar alone
unfoldable pub parse : Stream → State → Outcome
parse (word s w S) σ = follow (step σ s w) s (parse S)
parse (over s) σ = finish σ s
parse (broken n p) σ = refused n p

-- the sentences of what was read
abbrev pub front_sentences : Front → List Sentence
front_sentences f = sentences f.blocks ++ block_sentences f.name f.equations

abbrev pub so_far : State → List Sentence
so_far (between bs) = sentences bs
so_far (naming bs n) = sentences bs
so_far (body f) = front_sentences f
so_far (lefting f p ls) = front_sentences f
so_far (lefted h) = front_sentences h.front
so_far (begun h) = front_sentences h.front
so_far (side h r ph f t) = front_sentences h.front

-- how many paths are open
abbrev pub open_paths : Frames → ℕ
open_paths outside = 0
open_paths (within p q n b f) = suc (open_paths f)

abbrev pub depth : State → ℕ
depth (between bs) = 0
depth (naming bs n) = 0
depth (body f) = 0
depth (lefting f p ls) = 0
depth (lefted h) = 0
depth (begun h) = 0
depth (side h r ph f t) = open_paths f
