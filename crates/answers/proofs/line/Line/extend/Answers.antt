use Rattle.std.proofs.Common.{◌≡◌, ◌-◌, min, length, vec_items, ◌∙◌, arith, length-take}
use Rattle.std.proofs.lemmas.Bool.{cond-true}
use Rattle.answers.proofs.Kept.{extended}
use Rattle.answers.proofs.line.Line.extend.Goals as goal

pub returns : goal.returns
returns c =
    let v = c.args.self.now.bytes in
    let z = v.ok.0 in
    let t = length-take c.min-n.result c.args.part.now in
    let n : c.min-n.result ≡ min (length c.args.part.now) (1025 - length (vec_items v)) = omega arith in
    extended (vec_items v) c.args.part.now (vec_items c.extend_from_slice.new.self) c.min-n.result (omega arith) n
    (c.extend_from_slice.ensures.items ∙ cond-true _ _ _ (c.extend_from_slice.ensures.succeeds (omega arith)))
