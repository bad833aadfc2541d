use Rattle.std.proofs.Common.{◌<◌, length, vec_items, arith}
use Rattle.std.proofs.lemmas.Grind.{common_steps}
use Rattle.answers.proofs.Kept.{past_block}
use Rattle.answers.proofs.line.Line.read.Goals as goal

pub returns-in_err-rest-clause-bytes : goal.returns-in_err-rest-clause-bytes
returns-in_err-rest-clause-bytes c =
    let past : length c.args.block.now < c.args.from = grind (arith, common_steps) in
    let z = c.args.self.now.bytes.ok.0 in
    past_block c.args.block.now c.args.from past (vec_items c.args.self.now.bytes) (omega arith)
