-- What is promised of what is shown, and of each call.
use Rattle.std.specs.Prelude.{◌≡◌, ℕ, ◌-◌, ◌<◌, ◌≤◌, ◌↔◌, List, [], ◌∷◌, ◌++◌, Some, None, Option}
use Rattle.terms.specs.declared.items.Node.{Node}
use Rattle.terms.specs.declared.items.Atom.{Atom}
use Rattle.terms.specs.Maps.{Map, Meaning}
use Rattle.rules.specs.Keller.{Derives, Within, def_uses}
use Rattle.rules.specs.Outcomes.{Stop}
use Rattle.rules.specs.Evaluation.{outcome}
use Rattle.rules.specs.Shown.{Shown, unfinished, shows, ended, steps}
use Rattle.machine.specs.Bounds.{Asked}
use Rattle.engine.specs.States.{progress_of}
use Rattle.evaluator.specs.declared.evaluator.Evaluator.{Evaluator}
use Rattle.evaluator.specs.Calls.{Act, Holding, shown_for, reported_for, refused, held_after, held}
use Rattle.evaluator.specs.Holds.{holding_of, shown_by, CameBy}

-- Keller's rules derive v within the limits, with no more uses of Def than steps were granted
abbrev pub DerivedInTime : Map → Holding → List Atom → Type 0
DerivedInTime M h v = (d : Derives M h.question v) × Within d × (def_uses d ≤ h.granted)

-- Of what is held: what is shown, and the steps that are reported.
pub record ByTheRules (M : Map) (holding : Option Holding) (out : Option Shown) (reported : ℕ) : Type 0 where
  pub shown_as_defined : out ≡ shown_for M holding
  pub steps_as_defined : reported ≡ reported_for M holding
  pub idle_if_none_is_held : (out ≡ None) ↔ (holding ≡ None)
  pub unfinished_if_more_steps_are_due : (out ≡ Some unfinished) ↔ ((h : Holding) × (holding ≡ Some h) × (h.granted < steps (outcome M h.question)))
  pub value_if_derived_in_time : (v : List Atom) → (out ≡ Some (shows v)) ↔ ((h : Holding) × (holding ≡ Some h) × DerivedInTime M h v)
  pub undefined_has_no_derivation : out ≡ Some (ended Stop.undefined) → (h : Holding) → holding ≡ Some h → (v : List Atom) → Derives M h.question v → ⊥
  pub circular_has_no_derivation : out ≡ Some (ended Stop.circular) → (h : Holding) → holding ≡ Some h → (v : List Atom) → Derives M h.question v → ⊥
  pub uses_are_the_steps : (v : List Atom) → out ≡ Some (shows v) → (h : Holding) → holding ≡ Some h → (w : List Atom) (d : Derives M h.question w) → (w ≡ v) × (def_uses d ≡ reported)

-- of an evaluator, after these calls
abbrev pub ByTheRulesAfter : {S : Type 0} → (S → Meaning) → List Act → Evaluator S → Type 0
ByTheRulesAfter means acts e = ByTheRules (means e.store).map (held (means e.store).map acts) (shown_by e) e.steps

-- of an evaluator, whatever calls it came about by
abbrev pub ShowsByTheRules : {S : Type 0} → (S → Meaning) → Evaluator S → Type 0
ShowsByTheRules means e = (acts : List Act) → CameBy means acts e → ByTheRulesAfter means acts e

-- Of a call, between an evaluator e before it and z after it, with the number by which it was refused, or none:
pub record Called {S : Type 0} (means : S → Meaning) (e : Evaluator S) (a : Act) (number : Option ℕ) (z : Evaluator S) : Type 0 where
  pub refused_as_defined : number ≡ refused (shown_by e) a
  pub held_as_defined : holding_of z ≡ held_after (shown_by e) (holding_of e) a
  pub refused_alters_nothing : (k : ℕ) → number ≡ Some k → z ≡ e
  pub store_stays : z.store ≡ e.store
  pub came : (before : List Act) → CameBy means before e → CameBy means (before ++ a ∷ []) z
  pub right : (before : List Act) → CameBy means before e → ByTheRulesAfter means (before ++ a ∷ []) z

-- a new evaluator
pub record New {S : Type 0} (means : S → Meaning) (store : S) (e : Evaluator S) : Type 0 where
  pub over : e.store ≡ store
  pub came : CameBy means [] e
  pub right : ByTheRulesAfter means [] e

-- The same whatever the store means, of what never asks it.
abbrev pub CalledOverAnyStore : {S : Type 0} → Evaluator S → Act → Option ℕ → Evaluator S → Type 0
CalledOverAnyStore {S} e a number z = (means : S → Meaning) → Called means e a number z

abbrev pub NewOverAnyStore : {S : Type 0} → S → Evaluator S → Type 0
NewOverAnyStore {S} store e = (means : S → Meaning) → New means store e

abbrev pub ShownOverAnyStore : {S : Type 0} → Evaluator S → Type 0
ShownOverAnyStore {S} e = (means : S → Meaning) → ShowsByTheRules means e

-- The whole theorem: an evaluator that is new over a store and then gets these calls.
pub record Evaluated {S : Type 0} (means : S → Meaning) (store : S) (acts : List Act) (e : Evaluator S) : Type 0 where
  pub over : e.store ≡ store
  pub came : CameBy means acts e
  pub right : ByTheRules (means store).map (held (means store).map acts) (shown_by e) e.steps

-- how often the store was asked for the steps taken between e and z
abbrev pub Requests : {S : Type 0} → (S → Meaning) → Evaluator S → ℕ → Evaluator S → Type 0
Requests means e n z = (before : List Act) → CameBy means before e
    → Asked (means e.store).map (progress_of e.machine) (z.steps - e.steps) n (progress_of z.machine)

-- two maps that have the same right side for every node and left path
abbrev pub SameMap : Map → Map → Type 0
SameMap M N = (n : Node) (l : List Atom) → M n l ≡ N n l

-- of two evaluators that came about by the same calls, over stores of the same map: both show the same
abbrev pub ShowsAlike : {S R : Type 0} → (S → Meaning) → (R → Meaning) → Evaluator S → Evaluator R → Type 0
ShowsAlike means means' e z =
    (acts : List Act) → SameMap (means e.store).map (means' z.store).map → CameBy means acts e → CameBy means' acts z
    → (shown_by e ≡ shown_by z) × (e.steps ≡ z.steps)
