use Rattle.questions.proofs.Ahead.{next_word}
use Rattle.questions.proofs.parts.next_word.Goals as goal

pub returns : goal.returns
returns c =
    let n = next_word c.args.reader.now c.next.new.self c.next.result c.next.ensures.value c.next.ensures.same in
    record { words = n.0; short = n.1 }
