-- What holds between Keller's rules, the table of questions and the outcomes.
use Rattle.std.specs.Prelude.{◌≡◌, ℕ, ◌<◌, ◌≤◌, true, ◌↔◌, List, ◌++◌, length}
use Rattle.terms.specs.declared.items.Node.{Node}
use Rattle.terms.specs.declared.items.Atom.{Atom}
use Rattle.terms.specs.Limits.{open_limit, value_limit}
use Rattle.terms.specs.Terms.{Terms}
use Rattle.terms.specs.Maps.{Map}
use Rattle.terms.specs.LookUp.{found, look_up}
use Rattle.rules.specs.Questions.{Question}
use Rattle.rules.specs.Keller.{Descs, MostSpecific, written_out, theory, Derives, Within, Slim, def_uses, def_depth}
use Rattle.rules.specs.Table.{Answers, uses, Fits}
use Rattle.rules.specs.Outcomes.{Stop, value, stopped}
use Rattle.rules.specs.Evaluation.{same_question, outcome}
use Rattle.rules.specs.Shown.{Shown, unfinished, shows, ended, steps, shown, reported}

-- The sentence that Keller's Def uses is the one that the look-up finds, written out.
abbrev pub MostSpecificIsFound : Type 0
MostSpecificIsFound = (M : Map) (N : Node) (α γ : List Atom) (φ : Descs)
    → MostSpecific (theory M) N α γ φ ↔ ((t : Terms) × (look_up (M N) (α ++ γ) ≡ found (length α) t) × (φ ≡ written_out N α t))

-- the test for a circle is of equality
abbrev pub SameQuestionIsEquality : Type 0
SameQuestionIsEquality = (q r : Question) → (same_question q r ≡ true) ↔ (q ≡ r)

-- A question has a value by the table in n uses of Def exactly if it has it by Keller's rules in n uses of Def; and so within the limits.
abbrev pub TableDerivesAsKeller : Type 0
TableDerivesAsKeller = (M : Map) (q : Question) (v : List Atom) (n : ℕ)
    → (((d : Answers M q v) × (uses d ≡ n)) ↔ ((d : Derives M q v) × (def_uses d ≡ n)))
    × (((d : Answers M q v) × Fits d × (uses d ≡ n)) ↔ ((d : Derives M q v) × Within d × (def_uses d ≡ n)))

-- the derivations of a question give one value, with one number of uses of Def
abbrev pub DerivationsAgree : Type 0
DerivationsAgree = (M : Map) (q : Question) (v w : List Atom) (d : Derives M q v) (e : Derives M q w) → (v ≡ w) × (def_uses d ≡ def_uses e)

-- a value that a question comes to is derived within the limits, in one use of Def for each step
abbrev pub ValuesAreDerivedWithinTheLimits : Type 0
ValuesAreDerivedWithinTheLimits = (M : Map) (q : Question) (v : List Atom) (n : ℕ)
    → outcome M q ≡ value v n → (d : Derives M q v) × Within d × (def_uses d ≡ n)

-- a question comes to every value that is derived within the limits, in one step for each use of Def
abbrev pub DerivedValuesAreOutcomes : Type 0
DerivedValuesAreOutcomes = (M : Map) (q : Question) (v : List Atom) (d : Derives M q v) → Within d → outcome M q ≡ value v (def_uses d)

-- Undefined and circular mean that nothing is derived at all, under any limits; path, depth and length, that no derivation keeps that limit.
pub record StopsMean (M : Map) (q : Question) (n : ℕ) : Type 0 where
  pub undefined_is_not_derived : outcome M q ≡ stopped Stop.undefined n → (v : List Atom) → Derives M q v → ⊥
  pub circular_is_not_derived : outcome M q ≡ stopped Stop.circular n → (v : List Atom) → Derives M q v → ⊥
  pub path_limit_is_not_kept : outcome M q ≡ stopped Stop.path n → (v : List Atom) (d : Derives M q v) → Slim d → ⊥
  pub open_limit_is_passed : outcome M q ≡ stopped Stop.depth n → (v : List Atom) (d : Derives M q v) → open_limit < def_depth d
  pub value_limit_is_passed : outcome M q ≡ stopped Stop.length n → (v : List Atom) → Derives M q v → value_limit < length v

abbrev pub StopsMeanNoDerivation : Type 0
StopsMeanNoDerivation = (M : Map) (q : Question) (n : ℕ) → StopsMean M q n

-- Of a question and the steps granted: what is shown, and the steps that are reported.
pub record ShownByTheRules (M : Map) (q : Question) (granted : ℕ) (out : Shown) (taken : ℕ) : Type 0 where
  -- a value is shown exactly if it is derived within the limits with no more uses of Def than steps were granted
  pub value_if_derived_in_time : (v : List Atom) → (out ≡ shows v) ↔ ((d : Derives M q v) × Within d × (def_uses d ≤ granted))
  -- unfinished is shown exactly if the outcome takes more steps than were granted
  pub unfinished_if_more_steps_are_due : (out ≡ unfinished) ↔ (granted < steps (outcome M q))
  pub undefined_has_no_derivation : out ≡ ended Stop.undefined → (v : List Atom) → Derives M q v → ⊥
  pub circular_has_no_derivation : out ≡ ended Stop.circular → (v : List Atom) → Derives M q v → ⊥
  -- every derivation of a question whose value is shown gives that value, and uses Def as often as steps are reported
  pub uses_are_the_steps : (v : List Atom) → out ≡ shows v → (w : List Atom) (d : Derives M q w) → (w ≡ v) × (def_uses d ≡ taken)

-- for every question and every number of steps
abbrev pub AllIsShownByTheRules : Type 0
AllIsShownByTheRules = (M : Map) (q : Question) (granted : ℕ)
    → ShownByTheRules M q granted (shown (outcome M q) granted) (reported (outcome M q) granted)
