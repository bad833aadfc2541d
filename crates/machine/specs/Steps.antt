-- An evaluation that can be left after any step: what is held between steps, and what one step makes of it.
use Rattle.std.specs.Prelude.{ℕ, zero, suc, ◌+◌, ◌-◌, List, [], ◌∷◌, ◌++◌, map, length, Some, None, Option}
use Rattle.terms.specs.declared.items.Node.{Node}
use Rattle.terms.specs.declared.items.Atom.{Atom}
use Rattle.terms.specs.declared.items.Quoting.{Quoting}
use Rattle.terms.specs.Limits.{path_limit, open_limit, value_limit}
use Rattle.terms.specs.Terms.{Terms}
use Rattle.terms.specs.Maps.{Map}
use Rattle.terms.specs.LookUp.{Look, found, nothing, look_up}
use Rattle.rules.specs.Questions.{Question}
use Rattle.rules.specs.Table.{site, node_asks_lem, path_asks_lem}
use Rattle.rules.specs.Outcomes.{Stop}
use Rattle.rules.specs.Evaluation.{barred}

-- What is being built: the value so far; and in front of it the inside of each path that is open, innermost first. Atoms go to the first.
pub data Built : Type 0 where
  whole : List Atom → Built
  inside : Quoting → Option Node → List Atom → Built → Built

-- how many more atoms there is room for, and what it is called when one comes that has none
abbrev pub room : Built → ℕ
room (whole v) = value_limit - length v
room (inside c n u b) = path_limit - length u

abbrev pub full : Built → Stop
full (whole v) = Stop.length
full (inside c n u b) = Stop.path

-- the same with atoms behind those that are there
abbrev pub put : List Atom → Built → Built
put w (whole v) = whole (v ++ w)
put w (inside c n u b) = inside c n (u ++ w) b

-- the value so far
abbrev pub so_far : Built → List Atom
so_far (whole v) = v
so_far (inside c n u b) = so_far b

-- a path is closed: the question that it asks is for what is built around it
abbrev pub close : {A : Type 0} → Built → A → (Quoting → Option Node → List Atom → Built → A) → A
close (whole v) none f = none
close (inside c n u b) none f = f c n u b

-- An open sentence: its question, the length of its left path, the terms to come, and those behind the close of each path that is open
-- in it, innermost first.
pub record Open : Type 0 where
  pub at : Question
  pub left : ℕ
  pub now : Terms
  pub behind : List Terms

abbrev pub open_sentence : Question → ℕ → Terms → List Terms → Open
open_sentence q k t ts = record { at = q; left = k; now = t; behind = ts }

abbrev pub questions : List Open → List Question
questions opens = map (λ o. o.at) opens

-- What is held between steps: a question that is to be looked up next, with the open sentences, last opened first, and what is being
-- built; or the end.
pub data State (O : Type 0) : Type 0 where
  asks : Question → List O → Built → State O
  has : List Atom → State O
  stops : Stop → State O

-- a new question, tested for path, then circular, then depth
abbrev pub allowed : {O : Type 0} → Option Stop → ℕ → State O → State O
allowed (Some s) left p = stops s
allowed None zero p = stops Stop.depth
allowed None (suc left) p = p

unfoldable pub pose : {O : Type 0} → List Question → Question → List O → Built → State O
pose opened q opens b = allowed (barred opened q) (open_limit - length opened) (asks q opens b)

-- Work up to the next question, or the end: in one sentence, with `leave` for what comes once it is closed; and in all.
unfoldable pub work_terms : Question → ℕ → Terms → List Terms → List Open → Built → (Built → State Open) → State Open
work_terms q k Terms.done [] opens b leave = leave b
work_terms q k Terms.done (t ∷ ts) opens b leave =
    close b (stops Stop.undefined) (λ c n u g. pose (q ∷ questions opens) (path_asks_lem (site q k) c n u) (open_sentence q k t ts ∷ opens) g)
work_terms q k (Terms.atom a t) ts opens b leave =
    elim (room b) [ zero ↦ stops (full b) | suc m ↦ work_terms q k t ts opens (put (a ∷ []) b) leave ]
work_terms q k (Terms.node c n t) ts opens b leave = pose (q ∷ questions opens) (node_asks_lem (site q k) c n) (open_sentence q k t ts ∷ opens) b
work_terms q k (Terms.path c n i t) ts opens b leave = work_terms q k i (t ∷ ts) opens (inside c n [] b) leave

unfoldable pub work_sentences : List Open → Built → State Open
work_sentences [] b = has (so_far b)
work_sentences (o ∷ opens) b = work_terms o.at o.left o.now o.behind opens b (work_sentences opens)

-- one step: the look-up, and the work that follows it
abbrev pub looked : Question → List Open → Built → Look → State Open
looked q opens b nothing = stops Stop.undefined
looked q opens b (found k t) = work_sentences (open_sentence q k t [] ∷ opens) b

unfoldable pub next : Map → State Open → State Open
next M (asks q opens b) = looked q opens b (look_up (M q.node) q.path)
next M (has v) = has v
next M (stops s) = stops s

-- so many steps
unfoldable pub after : Map → ℕ → State Open → State Open
after M zero p = p
after M (suc n) p = after M n (next M p)

-- the steps that are taken when so many are granted
abbrev pub step_of : {O : Type 0} → State O → ℕ
step_of (asks q opens b) = 1
step_of (has v) = 0
step_of (stops s) = 0

unfoldable pub steps_taken : Map → ℕ → State Open → ℕ
steps_taken M zero p = 0
steps_taken M (suc n) p = step_of p + steps_taken M n (next M p)

-- a first question
abbrev pub start : Question → State Open
start q = pose [] q [] (whole [])
