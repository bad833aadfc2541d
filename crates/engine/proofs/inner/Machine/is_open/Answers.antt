use Rattle.std.proofs.Common.{vec_items, ◌∙◌, rules, tests}
use Rattle.std.proofs.lemmas.Iterator.{YieldsList-from_slice}
use Rattle.std.proofs.lemmas.Iterator.Search.{any_from_yields_List}
use Rattle.sentences.specs.Kept.{question_of}
use Rattle.engine.proofs.Stacks.{is_for, any_is_among}
use Rattle.engine.proofs.inner.Machine.is_open.Goals as goal

pub returns : goal.returns
returns c =
    let q = question_of c.args.question.now in
    let t = vec_items c.args.self.now.table in
    any_from_yields_List (is_for q) _ _ c.any.result c.any.ensures.ran (YieldsList-from_slice t (cc)) (λ x b f k. search (rules, tests)) ∙ any_is_among q t
