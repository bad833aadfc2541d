use Rattle.std.proofs.Common.{vec_len}
use Rattle.engine.proofs.Turns.{wanted_in_range, wanted_has_room, turn_falls, room_no}
use Rattle.engine.proofs.inner.Machine.turn.Goals as goal

pub take-requires-clause-place : goal.take-requires-clause-place
take-requires-clause-place g c =
    let s = g.S.Store.means c.args.store.now in
    wanted_in_range s.map s.lawful c.args.self.now c.requires.works c.wanted-item.result c.wanted-item.ensures

pub returns-then-has_room-clause-less : goal.returns-then-has_room-clause-less
returns-then-has_room-clause-less g c =
    let s = g.S.Store.means c.args.store.now in
    turn_falls s.map s.lawful c.args.self.now c.requires.works c.wanted-item.result c.wanted-item.ensures c.take.new.self c.take.ensures

pub returns-else-has_room-clause-took : goal.returns-else-has_room-clause-took
returns-else-has_room-clause-took g c = λ v.
    let s = g.S.Store.means c.args.store.now in
    let m = c.args.self.now in
    let i = c.wanted-item.result in
    absurd (room_no i (vec_len m.insides) c.if-has_room.ensures (wanted_has_room s.map s.lawful m c.requires.works i c.wanted-item.ensures v))
