use Rattle.std.proofs.Common.{true, false, sym, ap}
use Rattle.sentences.specs.Kept.{question_of}
use Rattle.lines.specs.Pages.{filled, page_after}
use Rattle.lines.proofs.Answered.{tested, refused_without_names, line_with_names, of_line}
use Rattle.lines.proofs.Lengths.{within_limit}
use Rattle.lines.proofs.writing.write_answer.Goals as goal

pub returns-then-not-all_named : goal.returns-then-not-all_named
returns-then-not-all_named g c =
    let names = c.args.names.now in
    let q = question_of c.in-Some.question.now in
    let v = c.value-value.result.now in
    let e =
    refused_without_names names c.args.evaluator.now q v c.in-Some.ensures.shown c.value-value.ensures.shown
    (tested names q c.node.result c.path.result.now v false c.node.ensures c.path.ensures c.if-not-all_named.ensures) in
    record {
      end = sym (ap (λ l. filled l c.args.page.now c.args.fill) e);
      page = sym (ap (λ l. page_after l c.args.page.now c.args.fill) e);
      limit = within_limit names c.args.evaluator.now;
    }

pub returns : goal.returns
returns g c =
    let names = c.args.names.now in
    let q = question_of c.in-Some.question.now in
    let v = c.value-value.result.now in
    let e =
    line_with_names names c.args.evaluator.now q v c.outcome.result c.steps.result c.in-Some.ensures.shown c.value-value.ensures.shown
    c.outcome.ensures.shown c.steps.ensures.shown
    (tested names q c.node.result c.path.result.now v true c.node.ensures c.path.ensures c.if-not-all_named.ensures) in
    record {
      end = of_line (λ l. filled l c.args.page.now c.args.fill) c.write_line.ensures.end e;
      page = of_line (λ l. page_after l c.args.page.now c.args.fill) c.write_line.ensures.page e;
      limit = within_limit names c.args.evaluator.now;
    }
