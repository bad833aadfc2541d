use Rattle.std.proofs.Common.{◌≡◌, ap, ◌∙◌}
use Rattle.path.specs.Atoms.{atoms_of}
use Rattle.names.specs.Tables.{nodes_in, atoms_in}
use Rattle.evaluator.specs.Calls.{held}
use Rattle.evaluator.specs.Holds.{holding_of, shown_by}
use Rattle.lines.specs.Bytes.{Line}
use Rattle.lines.specs.Pages.{filled, page_after}
use Rattle.answers.proofs.Granted.{calls, line_shown, question_told}
use Rattle.answers.proofs.answer.answer_question.Goals as goal

pub returns : goal.returns
returns g c =
    let M = (g.S.Store.means c.args.store.now).map in
    let n = c.args.asked.node in
    let q = c.as_slice-path.result.now in
    let z = c.evaluate-evaluator.result in
    let told = c.evaluate-evaluator.ensures in
    let same : holding_of z ≡ held M (calls n q) = told.came.held ∙ ap (λ s. held (g.S.Store.means s.now).map (calls n q)) told.over in
    let l = line_shown M n (atoms_of c.args.asked.path) q c.as_slice-path.ensures c.requires (holding_of z) same (shown_by z) z.steps told.right (nodes_in c.args.names.now) (atoms_in c.args.names.now) in
    record {
      end = c.write_answer-end.ensures.end ∙ ap (λ (x : Line). filled x c.args.page.now c.args.fill) l;
      page = c.write_answer-end.ensures.page ∙ ap (λ (x : Line). page_after x c.args.page.now c.args.fill) l;
      right = question_told M n (atoms_of c.args.asked.path) q c.as_slice-path.ensures c.requires (holding_of z) same (shown_by z) z.steps told.right;
    }
