use Rattle.std.proofs.Common.{◌≡◌, Err, sym, ap, ◌∙◌, rules}
use Rattle.stores.specs.Sentences.{sentence}
use Rattle.stores.proofs.Keeps.{added_unfit, added_twice, added_by_room}
use Rattle.kept.specs.Contents.{Contents, with_sentences}
use Rattle.kept.specs.Held.{limits_of, smaller}
use Rattle.listed.specs.Held.{held_in, room_in}
use Rattle.listed.proofs.Listed.add.Goals as goal

pub returns-in_err-check_fitness : goal.returns-in_err-check_fitness
returns-in_err-check_fitness c =
    let s = c.args.self.now in
    let p = added_unfit (limits_of (smaller c.args.most (room_in s))) (held_in s) (sentence c.args.node c.args.left.now c.args.right.now) c.in_err-check_fitness.field-0.0 c.in_err-check_fitness.ensures in
    let e : c.from_residual.result ≡ Err c.in_err-check_fitness.field-0.0 = search rules in
    record { gives = e ∙ p.0; keeps = ap (with_sentences s.kept) p.1 }

pub returns-then-has : goal.returns-then-has
returns-then-has c =
    let s = c.args.self.now in
    let p = added_twice (limits_of (smaller c.args.most (room_in s))) (held_in s) (sentence c.args.node c.args.left.now c.args.right.now) c.in_ok-check_fitness.ensures (sym c.if-has.ensures) in
    record { gives = p.0; keeps = ap (with_sentences s.kept) p.1 }

pub returns : goal.returns
returns c =
    let s = c.args.self.now in
    let h = ap (λ (v : Contents). v.sentences) c.put.ensures.keeps in
    let p = added_by_room (limits_of (smaller c.args.most (room_in s))) (held_in s) (sentence c.args.node c.args.left.now c.args.right.now) c.put.result (held_in c.put.new.self) c.in_ok-check_fitness.ensures (sym c.if-has.ensures) c.put.ensures.gives h in
    record { gives = search rules ∙ p.0; keeps = c.put.ensures.keeps ∙ ap (with_sentences s.kept) (sym h ∙ p.1) }
