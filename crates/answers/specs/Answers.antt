-- What is answered to a line.
use Rattle.std.specs.Prelude.{◌≡◌, ℕ, List, Some, None, Ok, Option, Result}
use Rattle.terms.specs.declared.items.Node.{Node}
use Rattle.terms.specs.declared.items.Atom.{Atom}
use Rattle.terms.specs.Maps.{Map}
use Rattle.rules.specs.Questions.{own}
use Rattle.rules.specs.Evaluation.{outcome}
use Rattle.rules.specs.Shown.{shown, reported}
use Rattle.grammar.specs.Texts.{Names}
use Rattle.evaluator.specs.Calls.{Holding}
use Rattle.evaluator.specs.Promise.{ByTheRules}
use Rattle.questions.specs.Lines as questions
use Rattle.questions.specs.Lines.{nothing, asks, rejected, read_line}
use Rattle.lines.specs.Bytes.{Line, line, refusal_bytes, shown_line}
use Rattle.lines.specs.Pages.{filled, page_after}

-- the steps that each question is granted
abbrev pub grant : ℕ
grant = 1000000

abbrev pub granted : Node → List Atom → Holding
granted n p = record { question = own n p; granted = grant }

-- The line that answers: none to a line without words; number and place of a fault; or what is shown of the question.
abbrev pub answer_to : Map → questions.Line → Option Line
answer_to M nothing = None
answer_to M (asks n p ns) = Some (shown_line ns.nodes ns.atoms (Some (own n p)) (Some (shown (outcome M (own n p)) grant)) (reported (outcome M (own n p)) grant))
answer_to M (rejected k s) = Some (line (refusal_bytes k s))

-- how far the page is filled then, or the number of the refusal; and the page
abbrev pub filled_by : Option Line → List ℕ → ℕ → Result ℕ ℕ
filled_by None page fill = Ok fill
filled_by (Some l) page fill = filled l page fill

abbrev pub page_by : Option Line → List ℕ → ℕ → List ℕ
page_by None page fill = page
page_by (Some l) page fill = page_after l page fill

-- What is shown of a question is what the rules say of it; so it is of the question that a line asks.
abbrev pub QuestionByTheRules : Map → Node → List Atom → Type 0
QuestionByTheRules M n p = ByTheRules M (Some (granted n p)) (Some (shown (outcome M (own n p)) grant)) (reported (outcome M (own n p)) grant)

abbrev pub AnsweredByTheRules : Map → Names → List ℕ → Type 0
AnsweredByTheRules M ns bytes = (n : Node) (p : List Atom) (ns' : Names) → read_line ns bytes ≡ asks n p ns' → QuestionByTheRules M n p
