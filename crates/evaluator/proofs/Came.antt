-- What an evaluator's state shows, and what calls make of it.
use Rattle.std.proofs.Common.{◌≡◌, ℕ, ◌+◌, ◌<◌, min, List, [], ◌∷◌, ◌++◌, length, get_or, take, Some, None, vec_items, Option, sym, refl, ap, ◌∙◌, subst, append_assoc, arith}
use Rattle.std.proofs.lemmas.List.{take_more, map-append}
use Rattle.terms.specs.declared.items.Atom.{Atom}
use Rattle.terms.specs.Limits.{step_limit}
use Rattle.terms.specs.Maps.{Map, Meaning}
use Rattle.rules.specs.Questions.{Question}
use Rattle.rules.specs.Shown.{Shown, unfinished, shows, ended}
use Rattle.machine.specs.Steps.{whole, asks, after, steps_taken, start}
use Rattle.machine.specs.Items.{reached, meant, comes_to}
use Rattle.machine.specs.Bounds.{InsidesMatch}
use Rattle.machine.specs.Theorems.{shown_of}
use Rattle.machine.proofs.Steps.{steps_show_the_outcome_lem, steps_taken_are_reported, steps_add_up}
use Rattle.sentences.specs.declared.table.Question.{Question as Kept}
use Rattle.sentences.specs.declared.table.Open.{Open as Opened}
use Rattle.sentences.specs.declared.table.Inside.{Inside}
use Rattle.engine.specs.declared.table.Phase.{Phase}
use Rattle.engine.specs.declared.table.Phase.TheVariants as phase
use Rattle.engine.specs.declared.table.Worked.{Worked}
use Rattle.engine.specs.declared.inner.Machine.{Machine}
use Rattle.sentences.specs.Kept.{question_of}
use Rattle.engine.specs.States.{parts, progress_of}
use Rattle.engine.specs.Between.{Rests, Between, WentOn}
use Rattle.engine.proofs.Working.{first_asks}
use Rattle.evaluator.specs.declared.answers.Call.{Call}
use Rattle.evaluator.specs.declared.answers.Outcome.TheVariants as answer
use Rattle.evaluator.specs.declared.evaluator.Evaluator.{Evaluator}
use Rattle.evaluator.specs.Calls.{Act, works, GrantsAddUp, act_of, acts_of, Holding, shown_for, reported_for, refused, while_idle, while_unfinished, passed, granted_more, unless_refused, held_after, held_from, held}
use Rattle.evaluator.specs.Shown.{outcome_of, atom_at, value_of, atom_of}
use Rattle.evaluator.specs.Holds.{holding, holding_of, shown_in, shown_by, WorkedSoFar, Holds, CameBy}
use Rattle.evaluator.specs.Promise.{ByTheRules, ByTheRulesAfter, Called, New, SameMap, ShownOverAnyStore}
use Rattle.evaluator.proofs.Right.{right}

-- what the machine's phase shows
by_phase : (M : Map) (q : Kept) (x : Phase) (a : Kept) (os : List Opened) (is : List Inside) (v : List Atom) → Rests x
    → shown_in (Some q) x v ≡ Some (shown_of (comes_to (meant M (parts x a os is v))))
by_phase M q phase.Asks a os is v r = refl
by_phase M q phase.Works a os is v r = absurd r
by_phase M q phase.Has a os is v r = refl
by_phase M q (phase.Stops s) a os is v r = refl

shows_defined : (M : Map) (m : Machine) (o : Option Kept) (g s : ℕ) → Holds M m o g s
    → shown_in o m.phase (vec_items m.value) ≡ shown_for M (holding o g)
shows_defined M m None g s h = refl
shows_defined M m (Some q) g s h =
    by_phase M q m.phase m.asked (vec_items m.table) (vec_items m.insides) (vec_items m.value) h.between.rests
    ∙ (ap (λ p. Some (shown_of p)) h.state ∙ ap Some (steps_show_the_outcome_lem M (question_of q) g))

reports_defined : (M : Map) (m : Machine) (o : Option Kept) (g s : ℕ) → Holds M m o g s → s ≡ reported_for M (holding o g)
reports_defined M m None g s h = h.1
reports_defined M m (Some q) g s h = h.count ∙ steps_taken_are_reported M (question_of q) g

-- what is held after one call more
held_one_more : (M : Map) (h : Option Holding) (acts : List Act) (a : Act)
    → held_from M h (acts ++ a ∷ []) ≡ held_after (shown_for M (held_from M h acts)) (held_from M h acts) a
unfolding held_from
held_one_more M h [] a = refl
held_one_more M h (b ∷ acts) a = held_one_more M (held_after (shown_for M h) h b) acts a

module _ {S : Type 0} (means : S → Meaning) where
  pub right_after : (before : List Act) (e : Evaluator S) → CameBy means before e → ByTheRulesAfter means before e
  right_after before e c =
      let M = (means e.store).map in
      right M (held M before) (shown_by e) e.steps
      (shows_defined M e.machine e.question e.granted e.steps c.state ∙ ap (shown_for M) c.held)
      (reports_defined M e.machine e.question e.granted e.steps c.state ∙ ap (reported_for M) c.held)

  module _ (e z : Evaluator S) (a : Act) (s : z.store ≡ e.store) (h : holding_of z ≡ held_after (shown_by e) (holding_of e) a)
      (k : Holds (means e.store).map e.machine e.question e.granted e.steps
      → Holds (means e.store).map z.machine z.question z.granted z.steps) where
    came_on : (before : List Act) → CameBy means before e → CameBy means (before ++ a ∷ []) z
    came_on before c =
        let M = (means e.store).map in
        let d : shown_by e ≡ shown_for M (holding_of e) = shows_defined M e.machine e.question e.granted e.steps c.state in
        record {
          held =
              subst (λ t. holding_of z ≡ held (means t).map (before ++ a ∷ [])) (sym s)
              (h ∙ (ap (λ o. held_after o (holding_of e) a) d
              ∙ (ap (λ x. held_after (shown_for M x) x a) c.held ∙ sym (held_one_more M None before a))));
          state = subst (λ t. Holds (means t).map z.machine z.question z.granted z.steps) (sym s) (k c.state);
        }

    pub does : (number : Option ℕ) → number ≡ refused (shown_by e) a → ((n : ℕ) → number ≡ Some n → z ≡ e) → Called means e a number z
    does number r n = record {
      refused_as_defined = r;
      held_as_defined = h;
      refused_alters_nothing = n;
      store_stays = s;
      came = came_on;
      right = λ before c. right_after (before ++ a ∷ []) z (came_on before c);
    }

  pub refused_does : (e : Evaluator S) (a : Act) (n : ℕ) → refused (shown_by e) a ≡ Some n → Called means e a (Some n) e
  refused_does e a n h =
      does e e a refl (sym (ap (λ r. unless_refused r (holding_of e) (passed (holding_of e) a)) h)) (λ s. s) (Some n) (sym h) (λ _ _. refl)

  none_some : (n : ℕ) → ◌≡◌ {A = Option ℕ} None (Some n) → ⊥
  none_some n e = let z : ◌≡◌ {A = ℕ} 0 1 = cc in omega arith

  pub passed_does : (e z : Evaluator S) (a : Act) → refused (shown_by e) a ≡ None → z.store ≡ e.store → holding_of z ≡ passed (holding_of e) a
      → (Holds (means e.store).map e.machine e.question e.granted e.steps
      → Holds (means e.store).map z.machine z.question z.granted z.steps)
      → Called means e a None z
  passed_does e z a h s p k =
      does e z a s (p ∙ sym (ap (λ r. unless_refused r (holding_of e) (passed (holding_of e) a)) h)) k None (sym h) (λ n x. absurd (none_some n x))

  pub new : (e : Evaluator S) → CameBy means [] e → New means e.store e
  new e c = record { over = refl; came = c; right = right_after [] e c }

-- whatever it shows, it shows by the rules
pub shown_right : {S : Type 0} (e : Evaluator S) → ShownOverAnyStore e
shown_right e means acts c = right_after means acts e c

-- two stores of the same map
pub alike : {S R : Type 0} (means : S → Meaning) (means' : R → Meaning) (e : Evaluator S) (z : Evaluator R) (acts : List Act)
    → SameMap (means e.store).map (means' z.store).map → CameBy means acts e → CameBy means' acts z
    → (shown_by e ≡ shown_by z) × (e.steps ≡ z.steps)
alike means means' e z acts same c d =
    let M : Map = (means e.store).map in
    let N : Map = (means' z.store).map in
    let m : M ≡ N = λ i n l. same n l i in
    let r : ByTheRules M (held M acts) (shown_by e) e.steps = right_after means acts e c in
    let q : ByTheRules N (held N acts) (shown_by z) z.steps = right_after means' acts z d in (
      r.shown_as_defined ∙ (ap (λ (K : Map). shown_for K (held K acts)) m ∙ sym q.shown_as_defined),
      r.steps_as_defined ∙ (ap (λ (K : Map). reported_for K (held K acts)) m ∙ sym q.steps_as_defined),
    )

-- while idle, and while not
pub idle_yes : (o : Option Kept) (p : Phase) (v : List Atom) → o ≡ None → while_idle (shown_in o p v) ≡ Some 14
idle_yes o p v e = ap (λ x. while_idle (shown_in x p v)) e

idle_no_at : (q : Kept) (p : Phase) (v : List Atom) → while_idle (shown_in (Some q) p v) ≡ None
idle_no_at q phase.Asks v = refl
idle_no_at q phase.Works v = refl
idle_no_at q phase.Has v = refl
idle_no_at q (phase.Stops s) v = refl

pub idle_no : (o : Option Kept) (p : Phase) (v : List Atom) (q : Kept) → o ≡ Some q → while_idle (shown_in o p v) ≡ None
idle_no o p v q e = ap (λ x. while_idle (shown_in x p v)) e ∙ idle_no_at q p v

pub not_unfinished : (o : Option Shown) → (answer.Unfinished ≡ outcome_of o → ⊥) → while_unfinished o ≡ None
not_unfinished None f = refl
not_unfinished (Some unfinished) f = absurd (f refl)
not_unfinished (Some (shows v)) f = refl
not_unfinished (Some (ended s)) f = refl

pub is_unfinished : (o : Option Shown) → answer.Unfinished ≡ outcome_of o → while_unfinished o ≡ Some 13
is_unfinished None e = absurd (let z : ◌≡◌ {A = ℕ} 0 1 = cc in omega arith)
is_unfinished (Some unfinished) e = refl
is_unfinished (Some (shows v)) e = absurd (let z : ◌≡◌ {A = ℕ} 0 1 = cc in omega arith)
is_unfinished (Some (ended s)) e = absurd (let z : ◌≡◌ {A = ℕ} 0 1 = cc in omega arith)

-- a grant
pub granted_on : (o : Option Kept) (g k n : ℕ) → g + n ≡ min (g + k) step_limit → holding o (g + n) ≡ granted_more (holding o g) k
granted_on None g k n e = refl
granted_on (Some q) g k n e = ap (λ x. Some (record { question = question_of q; granted = x })) e

worked_on : (M : Map) (m z : Machine) (q : Question) (g s n : ℕ) (r : Worked) → (Between M m → WentOn M n m z r)
    → WorkedSoFar M m q g s → WorkedSoFar M z q (g + n) (s + r.steps)
worked_on M m z q g s n r f w =
    let t = f w.between in
    record {
      between = t.between;
      state = t.state ∙ (ap (after M n) w.state ∙ sym (steps_add_up M g n (start q)).0);
      count =
          let a : r.steps ≡ steps_taken M n (after M g (start q)) = t.steps ∙ ap (steps_taken M n) w.state in
          omega (arith, w.count, (steps_add_up M g n (start q)).1);
    }

pub holds_on : (M : Map) (m z : Machine) (o : Option Kept) (q : Kept) (g s n : ℕ) (r : Worked) → o ≡ Some q → (Between M m → WentOn M n m z r)
    → Holds M m o g s → Holds M z o (g + n) (s + r.steps)
holds_on M m z o q g s n r e f h =
    subst (λ x. Holds M z x (g + n) (s + r.steps)) (sym e) (worked_on M m z (question_of q) g s n r f (subst (λ x. Holds M m x g s) e h))

-- a question that has just been set
pub begun : (M : Map) (m : Machine) (q : Kept) → progress_of m ≡ reached (asks (question_of q) [] (whole [])) → m.phase ≡ phase.Asks
    → WorkedSoFar M m (question_of q) 0 0
unfolding after steps_taken
begun M m q e p = record {
  between = record { rests = subst Rests (sym p) tt; insides = subst (InsidesMatch M) (sym e) refl };
  state = ap (λ w. comes_to (meant M w)) e ∙ sym (first_asks q (whole []));
  count = refl;
}

-- the atoms that are shown in a phase
pub value_in : (o : Option Kept) (p x : Phase) (v : List Atom) (q : Kept) → o ≡ Some q → x ≡ p
    → value_of (shown_in (Some q) x v) ≡ value_of (shown_in o p v)
value_in o p x v q e f = sym (ap (λ l. value_of (shown_in l p v)) e ∙ ap (λ y. value_of (shown_in (Some q) y v)) (sym f))

-- the atom at a place is the value's
pub atom_in_value : (out : Option Shown) (k : ℕ) → atom_at (value_of out) k ≡ atom_of out k
atom_in_value None k = refl
atom_in_value (Some unfinished) k = refl
atom_in_value (Some (shows v)) k = refl
atom_in_value (Some (ended s)) k = refl

-- no atom is shown without a value
pub no_value : (o : Option Kept) (p : Phase) (v : List Atom) → (phase.Has ≡ p → ⊥) → [] ≡ value_of (shown_in o p v)
no_value None p v f = refl
no_value (Some q) phase.Asks v f = refl
no_value (Some q) phase.Works v f = refl
no_value (Some q) phase.Has v f = absurd (f refl)
no_value (Some q) (phase.Stops s) v f = refl

-- one more of a list of calls
pub one_more_call : (before : List Act) (cs : List Call) (i : ℕ) (d : Call) → i < length cs
    → (before ++ acts_of (take i cs)) ++ act_of (get_or cs i d) ∷ [] ≡ before ++ acts_of (take (i + 1) cs)
one_more_call before cs i d h =
    append_assoc before (acts_of (take i cs)) (act_of (get_or cs i d) ∷ [])
    ∙ ap (λ l. before ++ l) (sym (ap acts_of (take_more cs i d h) ∙ map-append act_of (take i cs) (get_or cs i d ∷ [])))

-- grants add up
grants : (M : Map) (h : Option Holding) (m n : ℕ) → held_from M h (works m ∷ works n ∷ []) ≡ held_from M h (works (m + n) ∷ [])
unfolding held_from
grants M None m n = refl
grants M (Some a) m n =
    let e : min (min (a.granted + m) step_limit + n) step_limit ≡ min (a.granted + (m + n)) step_limit = omega arith in
    ap (λ g. Some (record { question = a.question; granted = g })) e

after_all : (M : Map) (h : Option Holding) (acts ds es : List Act) → ((k : Option Holding) → held_from M k ds ≡ held_from M k es)
    → held_from M h (acts ++ ds) ≡ held_from M h (acts ++ es)
unfolding held_from
after_all M h [] ds es f = f h
after_all M h (a ∷ acts) ds es f = after_all M (held_after (shown_for M h) h a) acts ds es f

pub grants_add_up_lem : GrantsAddUp
grants_add_up_lem M acts m n = after_all M None acts (works m ∷ works n ∷ []) (works (m + n) ∷ []) (λ k. grants M k m n)

-- a call that is given as a value
pub called_as : {S : Type 0} (means : S → Meaning) (e z : Evaluator S) (number : Option ℕ) (c d : Call) → c ≡ d
    → Called means e (act_of d) number z → Called means e (act_of c) number z
called_as means e z number c d same h = subst (λ x. Called means e (act_of x) number z) (sym same) h
