-- A question that is begun and granted all its steps at once.
use Rattle.std.proofs.Common.{◌≡◌, ℕ, ◌≤◌, Bool, true, ◌&&◌, leb, List, [], ◌∷◌, length, Some, None, Option, ap, ◌∙◌, subst, arith}
use lib.ListN.{length-map}
use Rattle.std.proofs.lemmas.Bool.{and_from, le-leb}
use Rattle.terms.specs.declared.items.Node.{Node}
use Rattle.terms.specs.declared.items.Atom.{Atom}
use Rattle.terms.specs.Limits.{path_limit}
use Rattle.terms.specs.Maps.{Map, every, node_in_range, atom_in_range}
use Rattle.rules.specs.Questions.{own}
use Rattle.rules.specs.Evaluation.{outcome}
use Rattle.rules.specs.Shown.{Shown, shown, reported}
use Rattle.grammar.specs.Texts.{Names}
use Rattle.evaluator.specs.Calls.{Act, begins, works, Holding, fits, shown_for, reported_for, begin_refused, unless_refused, passed, held_from, held}
use Rattle.evaluator.specs.Holds.{question_in}
use Rattle.evaluator.specs.Promise.{ByTheRules}
use Rattle.questions.specs.Questions.{IsReadRightly}
use Rattle.questions.specs.Lines.{asks, atom_of, read_line}
use Rattle.lines.specs.Bytes.{shown_line}
use Rattle.answers.specs.Answers.{grant, granted, QuestionByTheRules}

-- what a question needs to be begun
pub numbers_fit : (n : Node) (p : List Atom) → node_in_range n ≡ true → every atom_in_range p ≡ true → length p ≤ path_limit → fits n p ≡ true
numbers_fit n p a b c = and_from (node_in_range n) (every atom_in_range p && leb (length p) path_limit) a (and_from (every atom_in_range p) (leb (length p) path_limit) b (le-leb (length p) path_limit c))

pub asked_fits : (ns : Names) (line : List ℕ) (n : Node) (p : List Atom) (ns' : Names) → IsReadRightly ns line → read_line ns line ≡ asks n p ns' → fits n p ≡ true
asked_fits ns line n p ns' r e =
    let q = (r.question n p ns').0 e in
    let k = ap length q.atoms ∙ length-map q.path (atom_of ns') in
    numbers_fit n p q.node_numbered q.atoms_numbered (omega (arith, q.few))

abbrev pub calls : Node → List Atom → List Act
calls n p = begins n p ∷ works grant ∷ []

module _ (M : Map) (n : Node) (p : List Atom) (f : fits n p ≡ true) where
  begun : held_from M (unless_refused (begin_refused (fits n p) None) None (passed None (begins n p))) (works grant ∷ []) ≡ Some (granted n p)
  unfolding held_from
  begun = ap (λ (b : Bool). held_from M (unless_refused (begin_refused b None) None (passed None (begins n p))) (works grant ∷ [])) f

  pub all_granted : held M (calls n p) ≡ Some (granted n p)
  unfolding held_from
  all_granted = begun

  module _ (holding : Option Holding) (same : holding ≡ held M (calls n p)) (out : Option Shown) (steps : ℕ) (right : ByTheRules M (held M (calls n p)) out steps) where
    out_is : out ≡ Some (shown (outcome M (own n p)) grant)
    out_is = right.shown_as_defined ∙ ap (shown_for M) all_granted

    steps_are : steps ≡ reported (outcome M (own n p)) grant
    steps_are = right.steps_as_defined ∙ ap (reported_for M) all_granted

    pub shown_so : (nodes atoms : List (List ℕ)) → shown_line nodes atoms (question_in holding) out steps ≡ shown_line nodes atoms (Some (own n p)) (Some (shown (outcome M (own n p)) grant)) (reported (outcome M (own n p)) grant)
    shown_so nodes atoms =
        ap (λ (h : Option Holding). shown_line nodes atoms (question_in h) out steps) (same ∙ all_granted)
        ∙ ap (λ (o : Option Shown). shown_line nodes atoms (Some (own n p)) o steps) out_is
        ∙ ap (shown_line nodes atoms (Some (own n p)) (Some (shown (outcome M (own n p)) grant))) steps_are

    pub told_so : QuestionByTheRules M n p
    told_so =
        let P : Option Holding → Type 0 = λ h. ByTheRules M h out steps in
        let Q : Option Shown → Type 0 = λ o. ByTheRules M (Some (granted n p)) o steps in
        let R : ℕ → Type 0 = λ k. ByTheRules M (Some (granted n p)) (Some (shown (outcome M (own n p)) grant)) k in
        subst R steps_are (subst Q out_is (subst P all_granted right))

-- the same of a path that is lent
module _ (M : Map) (n : Node) (p q : List Atom) (e : q ≡ p) (f : fits n p ≡ true) (holding : Option Holding) (same : holding ≡ held M (calls n q)) (out : Option Shown) (steps : ℕ) (right : ByTheRules M (held M (calls n q)) out steps) where
  lent : fits n q ≡ true
  lent = ap (fits n) e ∙ f

  pub line_shown : (nodes atoms : List (List ℕ)) → shown_line nodes atoms (question_in holding) out steps ≡ shown_line nodes atoms (Some (own n p)) (Some (shown (outcome M (own n p)) grant)) (reported (outcome M (own n p)) grant)
  line_shown nodes atoms =
      shown_so M n q lent holding same out steps right nodes atoms
      ∙ ap (λ (r : List Atom). shown_line nodes atoms (Some (own n r)) (Some (shown (outcome M (own n r)) grant)) (reported (outcome M (own n r)) grant)) e

  pub question_told : QuestionByTheRules M n p
  question_told = let P : List Atom → Type 0 = λ r. QuestionByTheRules M n r in subst P e (told_so M n q lent holding same out steps right)
