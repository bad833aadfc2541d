-- The bytes of each line, by what the code has in hand.
use Rattle.std.specs.Prelude.{ℕ, List, [], ◌++◌, codes}
use Rattle.names.specs.Tables.{nodes_in, atoms_in}
use Rattle.names.specs.declared.tables.Names.{Names}
use Rattle.sentences.specs.declared.table.Question.{Question}
use Rattle.sentences.specs.Kept.{question_of}
use Rattle.engine.specs.States.{stop_of}
use Rattle.evaluator.specs.declared.answers.Outcome.{Outcome}
use Rattle.evaluator.specs.declared.answers.Outcome.TheVariants as answer
use Rattle.evaluator.specs.declared.evaluator.Evaluator.{Evaluator}
use Rattle.evaluator.specs.Holds.{holding_of, question_in, shown_by}
use Rattle.lines.specs.declared.content.Answer.{Answer}
use Rattle.lines.specs.declared.content.Refused.{Refused}
use Rattle.lines.specs.declared.content.Content.{Content}
use Rattle.lines.specs.declared.content.Content.TheVariants as content
use Rattle.lines.specs.Bytes.{Line, shown_line, question_bytes, stop_bytes, unfinished_bytes, value_bytes, line_bytes, placed_bytes}
use Rattle.lines.specs.Names.{name_or_none, names_of}

abbrev pub question_spelled : Names → Question → List ℕ
question_spelled names q = question_bytes (name_or_none (nodes_in names) (question_of q).node.0) (names_of (atoms_in names) (question_of q).path)

-- while idle there is none, and no line is written
abbrev pub word_bytes : Outcome → List ℕ
word_bytes answer.Idle = []
word_bytes answer.Unfinished = unfinished_bytes
word_bytes answer.Value = codes "="
word_bytes (answer.Stopped s) = stop_bytes (stop_of s)

-- without a value there are no atoms
abbrev pub said_by : Outcome → List (List ℕ) → List ℕ
said_by out value = word_bytes out ++ value_bytes value

abbrev pub answer_bytes : Answer → List ℕ
answer_bytes a =
    line_bytes (name_or_none (nodes_in a.names.now) (question_of a.question.now).node.0)
    (names_of (atoms_in a.names.now) (question_of a.question.now).path)
    (said_by a.outcome (names_of (atoms_in a.names.now) a.value.now)) a.steps

abbrev pub refused_bytes : Refused → List ℕ
refused_bytes r = r.title.now ++ (r.mark.now ++ placed_bytes r.number r.place)

abbrev pub bytes_of : Content → List ℕ
bytes_of (content.Answer a) = answer_bytes a
bytes_of (content.Refused r) = refused_bytes r

-- the line of what an evaluator shows
abbrev pub line_by : {S : Type 0} → Names → Evaluator S → Line
line_by names e = shown_line (nodes_in names) (atoms_in names) (question_in (holding_of e)) (shown_by e) e.steps
