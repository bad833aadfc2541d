-- What calls do: which are refused, and what is held after them.
use Rattle.std.specs.Prelude.{◌≡◌, ℕ, ◌+◌, min, Bool, true, false, ◌&&◌, List, [], ◌∷◌, ◌++◌, map, length, Some, None, Ok, Err, Option, Result, nat_le}
use Rattle.terms.specs.declared.items.Node.{Node}
use Rattle.terms.specs.declared.items.Atom.{Atom}
use Rattle.terms.specs.Limits.{path_limit, step_limit}
use Rattle.terms.specs.Maps.{Map, every, node_in_range, atom_in_range}
use Rattle.rules.specs.Questions.{Question, own}
use Rattle.rules.specs.Evaluation.{outcome}
use Rattle.rules.specs.Shown.{Shown, unfinished, shows, ended, shown, reported}
use Rattle.evaluator.specs.declared.answers.Call.{Call}
use Rattle.evaluator.specs.declared.answers.Call.TheVariants as call
use Rattle.evaluator.specs.declared.answers.Refusal.{Refusal}
use Rattle.evaluator.specs.declared.answers.Refusal.TheVariants as refusal

-- the numbers of the refusals
abbrev pub number : Refusal → ℕ
number refusal.OutOfRange = 12
number refusal.Unfinished = 13
number refusal.Idle = 14

-- the number by which an answer refuses, or none
abbrev pub numbered : {T : Type 0} → Result T Refusal → Option ℕ
numbered (Ok x) = None
numbered (Err r) = Some (number r)

-- what a call is called to do
pub data Act : Type 0 where
  begins : Node → List Atom → Act
  works : ℕ → Act
  gives_up : Act

abbrev pub act_of : Call → Act
act_of (call.Begin n p) = begins n p.now
act_of (call.Work k) = works k
act_of call.GiveUp = gives_up

abbrev pub acts_of : List Call → List Act
acts_of calls = map act_of calls

-- what is held: a question, and the steps granted for it
pub record Holding : Type 0 where
  pub question : Question
  pub granted : ℕ

-- what is to be shown of it; while idle, none
abbrev pub shown_for : Map → Option Holding → Option Shown
shown_for M None = None
shown_for M (Some h) = Some (shown (outcome M h.question) h.granted)

-- the steps that are to be reported: as many as were granted, and no more than the outcome takes
abbrev pub reported_for : Map → Option Holding → ℕ
reported_for M None = 0
reported_for M (Some h) = reported (outcome M h.question) h.granted

-- a question that can be set: its numbers are in range, and it has no more atoms than a path may have
abbrev pub fits : Node → List Atom → Bool
fits n p = node_in_range n && (every atom_in_range p && nat_le (length p) path_limit)

-- By what number a call is refused while so much is shown: begin by 12 if the question does not fit, and then by 13 while one is
-- unfinished; work and give up by 14 while idle.
abbrev pub while_unfinished : Option Shown → Option ℕ
while_unfinished None = None
while_unfinished (Some unfinished) = Some 13
while_unfinished (Some (shows v)) = None
while_unfinished (Some (ended s)) = None

abbrev pub while_idle : Option Shown → Option ℕ
while_idle None = Some 14
while_idle (Some out) = None

abbrev pub begin_refused : Bool → Option Shown → Option ℕ
begin_refused false out = Some 12
begin_refused true out = while_unfinished out

abbrev pub refused : Option Shown → Act → Option ℕ
refused out (begins n p) = begin_refused (fits n p) out
refused out (works k) = while_idle out
refused out gives_up = while_idle out

-- What is held after a call that is let pass: begin sets its question, with no steps granted; work adds its number, up to the limit in
-- all; give up leaves none.
abbrev pub granted_more : Option Holding → ℕ → Option Holding
granted_more None k = None
granted_more (Some h) k = Some (record { question = h.question; granted = min (h.granted + k) step_limit })

abbrev pub passed : Option Holding → Act → Option Holding
passed h (begins n p) = Some (record { question = own n p; granted = 0 })
passed h (works k) = granted_more h k
passed h gives_up = None

-- a refused call alters nothing
abbrev pub unless_refused : Option ℕ → Option Holding → Option Holding → Option Holding
unless_refused (Some k) before after = before
unless_refused None before after = after

-- what is held after a call, while so much is shown
abbrev pub held_after : Option Shown → Option Holding → Act → Option Holding
held_after out h a = unless_refused (refused out a) h (passed h a)

-- What is held after calls, from what is held before them; and from the start.
unfoldable pub held_from : Map → Option Holding → List Act → Option Holding
held_from M h [] = h
held_from M h (a ∷ acts) = held_from M (held_after (shown_for M h) h a) acts

abbrev pub held : Map → List Act → Option Holding
held M acts = held_from M None acts

-- granting m and then n is granting m + n
abbrev pub GrantsAddUp : Type 0
GrantsAddUp = (M : Map) (acts : List Act) (m n : ℕ) → held M (acts ++ works m ∷ works n ∷ []) ≡ held M (acts ++ works (m + n) ∷ [])
