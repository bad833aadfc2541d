use Rattle.std.proofs.Common.{◌≡◌, ◌<◌, length, length-set, Some, None, ◌∙◌, arith, rules}
use Rattle.std.proofs.lemmas.List.{take-set}
use Rattle.stores.specs.Items.{item_at, items_of}
use Rattle.filling.proofs.RightSides.{item_some, items_few, read_more, read_all, read_full}
use Rattle.filling.proofs.read.Goals as goal

pub returns-in-None-clause-items : goal.returns-in-None-clause-items
returns-in-None-clause-items g c =
    let is = items_of ((g.S.Store.means c.args.store.now).map c.args.node c.args.left.now) in
    let e : None ≡ item_at is c.loop-n.n = search rules in
    take-set c.loop-n.into c.loop-n.n _ ∙ (read_all is c.loop-n.into c.loop-n.n e c.loop-n.invariant.1 c.loop-n.invariant.0).1

pub loop-n-preserved : goal.loop-n-preserved
loop-n-preserved g c =
    let is = items_of ((g.S.Store.means c.args.store.now).map c.args.node c.args.left.now) in
    let e : Some c.in-Some.item ≡ item_at is c.loop-n.n = search rules in
    let p = item_some is c.loop-n.n c.in-Some.item c.in-Some.item e in
    let k = p.0 in
    let q = c.loop-n.invariant.2 in
    let l : c.loop-n.n < length c.loop-n.into = omega arith in
    (read_more is c.loop-n.into c.loop-n.n c.in-Some.item e l c.loop-n.invariant.0, omega arith, length-set c.loop-n.into c.loop-n.n _ ∙ q)

pub returns : goal.returns
returns g c =
    let m = g.S.Store.means c.args.store.now in
    let p = read_full (items_of (m.map c.args.node c.args.left.now)) c.loop-n.into c.loop-n.n (items_few m c.args.node c.args.left.now) (omega arith) c.loop-n.invariant.1 c.loop-n.invariant.0 in
    record { len = p.0; items = p.1 }
