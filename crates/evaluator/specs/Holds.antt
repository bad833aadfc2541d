-- What an evaluator holds, and how it came about.
use Rattle.std.specs.Prelude.{◌≡◌, ℕ, true, false, List, Some, None, vec_items, Option}
use Rattle.std.specs.Borrow.{Bor}
use Rattle.terms.specs.declared.items.Node.{Node}
use Rattle.terms.specs.declared.items.Atom.{Atom}
use Rattle.terms.specs.Maps.{Map, Meaning}
use Rattle.rules.specs.Questions.{Question, own}
use Rattle.rules.specs.Shown.{Shown, unfinished, shows, ended}
use Rattle.machine.specs.Steps.{after, steps_taken, start}
use Rattle.sentences.specs.declared.table.Question.{Question as Kept}
use Rattle.engine.specs.declared.table.Phase.{Phase}
use Rattle.engine.specs.declared.table.Phase.TheVariants as phase
use Rattle.engine.specs.declared.inner.Machine.{Machine}
use Rattle.sentences.specs.Kept.{question_of}
use Rattle.engine.specs.States.{stop_of}
use Rattle.engine.specs.Between.{state_in, Between}
use Rattle.evaluator.specs.declared.evaluator.Evaluator.{Evaluator}
use Rattle.evaluator.specs.Calls.{Act, Holding, fits, held}

-- a first question, if it fits
abbrev pub First : Option Kept → Node → List Atom → Type 0
First None n p = fits n p ≡ false
First (Some q) n p = (fits n p ≡ true) × (question_of q ≡ own n p)

-- the question held, and the steps granted for it
abbrev pub holding : Option Kept → ℕ → Option Holding
holding None granted = None
holding (Some q) granted = Some (record { question = question_of q; granted = granted })

abbrev pub holding_of : {S : Type 0} → Evaluator S → Option Holding
holding_of e = holding e.question e.granted

-- the question alone, as it is lent and as it is held
abbrev pub question_lent : Option (Bor Kept) → Option Question
question_lent None = None
question_lent (Some q) = Some (question_of q.now)

abbrev pub question_in : Option Holding → Option Question
question_in None = None
question_in (Some h) = Some h.question

-- what is shown; while idle, none
abbrev pub shown_in : Option Kept → Phase → List Atom → Option Shown
shown_in None p v = None
shown_in (Some q) phase.Asks v = Some unfinished
shown_in (Some q) phase.Works v = Some unfinished
shown_in (Some q) phase.Has v = Some (shows v)
shown_in (Some q) (phase.Stops s) v = Some (ended (stop_of s))

abbrev pub shown_by : {S : Type 0} → Evaluator S → Option Shown
shown_by e = shown_in e.question e.machine.phase (vec_items e.machine.value)

-- The machine is between steps, in the state that the steps granted give for the question, and nothing of a later step is done; and the
-- steps are counted that were taken.
pub record WorkedSoFar (M : Map) (m : Machine) (q : Question) (granted steps : ℕ) : Type 0 where
  pub between : Between M m
  pub state : state_in M m ≡ after M granted (start q)
  pub count : steps ≡ steps_taken M granted (start q)

abbrev pub Holds : Map → Machine → Option Kept → ℕ → ℕ → Type 0
Holds M m None granted steps = (granted ≡ 0) × (steps ≡ 0)
Holds M m (Some q) granted steps = WorkedSoFar M m (question_of q) granted steps

-- e came about by these calls, from a new evaluator: it holds what they settle, in the state that the steps granted give
pub record CameBy {S : Type 0} (means : S → Meaning) (acts : List Act) (e : Evaluator S) : Type 0 where
  pub held : holding_of e ≡ held (means e.store).map acts
  pub state : Holds (means e.store).map e.machine e.question e.granted e.steps
