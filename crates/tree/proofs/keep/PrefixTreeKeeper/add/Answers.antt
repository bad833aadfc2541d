use Rattle.std.proofs.Common.{◌≡◌, cond, Ok, Err, length, sym, ap, ◌∙◌, rules}
use Rattle.stores.specs.Sentences.{sentence}
use Rattle.stores.specs.declared.refusals.Refusal.TheVariants as refused
use Rattle.stores.proofs.Keeps.{added_unfit, added_twice, added_by_room}
use Rattle.kept.specs.declared.Room.{Room}
use Rattle.kept.specs.Held.{passes, room_in}
use Rattle.kept.proofs.Rooms.{smaller_same}
use Rattle.tree.specs.Held.{kept_in, limits_of}
use Rattle.tree.proofs.keep.PrefixTreeKeeper.add.Goals as goal

pub returns-in_err-check_fitness : goal.returns-in_err-check_fitness
returns-in_err-check_fitness c =
    let s = c.args.self.now in
    let p = added_unfit limits_of (kept_in s) (sentence c.args.node c.args.left.now c.args.right.now) c.in_err-check_fitness.field-0.0 c.in_err-check_fitness.ensures in
    let e : c.from_residual.result ≡ Err c.in_err-check_fitness.field-0.0 = search rules in
    record { gives = e ∙ p.0; keeps = p.1 }

pub returns-then-has : goal.returns-then-has
returns-then-has c =
    let s = c.args.self.now in
    let p = added_twice limits_of (kept_in s) (sentence c.args.node c.args.left.now c.args.right.now) c.in_ok-check_fitness.ensures (sym c.if-has.ensures) in
    record { gives = p.0; keeps = p.1 }

pub returns : goal.returns
returns c =
    let s = c.args.self.now in
    let t = sentence c.args.node c.args.left.now c.args.right.now in
    let r = smaller_same c.most.result (room_in s.kept) (c.most.ensures ∙ sym s.room) ∙ s.room in
    let g = c.put.ensures.gives ∙ ap (λ (k : Room). cond (passes k (kept_in s) (length t.left) (length t.right)) (Err refused.Full) (Ok tt)) r in
    let p = added_by_room limits_of (kept_in s) t c.put.result (kept_in c.put.new.self) c.in_ok-check_fitness.ensures (sym c.if-has.ensures) g c.put.ensures.kept in
    record { gives = search rules ∙ p.0; keeps = p.1 }
