use Rattle.std.proofs.Common.{◌≡◌, ◌<◌, ◌≤◌, length, vec_items, sym, arith}
use Rattle.terms.specs.Limits.{open_limit}
use Rattle.engine.specs.States.{built_in}
use Rattle.engine.proofs.Working.{posed_circular, posed_depth, posed_next}
use Rattle.engine.proofs.inner.Machine.test.Goals as goal

pub returns-then-is_open-clause-posed : goal.returns-then-is_open-clause-posed
returns-then-is_open-clause-posed c =
    let m = c.args.self.now in
    sym (posed_circular c.args.question.now (vec_items m.table) (built_in m) c.if-is_open.ensures)

pub returns-then-len-ge-OPEN_SENTENCES-clause-posed : goal.returns-then-len-ge-OPEN_SENTENCES-clause-posed
returns-then-len-ge-OPEN_SENTENCES-clause-posed c =
    let m = c.args.self.now in
    let l : open_limit ≤ length (vec_items m.table) = omega (arith, m.table.ok.0) in
    sym (posed_depth c.args.question.now (vec_items m.table) (built_in m) c.if-is_open.ensures l)

pub returns-clause-posed : goal.returns-clause-posed
returns-clause-posed c =
    let m = c.args.self.now in
    let l : length (vec_items m.table) < open_limit = omega (arith, m.table.ok.0) in
    sym (posed_next c.args.question.now (vec_items m.table) (built_in m) c.if-is_open.ensures l)
