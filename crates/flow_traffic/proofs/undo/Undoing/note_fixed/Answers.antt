use Rattle.std.proofs.Common.{ap}
use Rattle.std.proofs.lemmas.Result.{on_ok_weaker}
use Rattle.flow_traffic.specs.Kept.{AreFixedIn}
use Rattle.flow_traffic.specs.Undoing.{UndoingView}
use Rattle.flow_traffic.proofs.undo.Undoing.note_fixed.Goals as goal

pub returns-clause-fixed : goal.returns-clause-fixed
returns-clause-fixed g c =
    let same = ap (λ (v : UndoingView). v.changed) c.make_room_to_tell.ensures.same in
    let noted = c.in_ok-note_fixed.ensures in
    let fixed : AreFixedIn c.args.id.now c.args.regulations.now.lists c.note_fixed.new.flights.items = record { rising = noted.rising; numbers = noted.numbers; others = noted.others } in
    on_ok_weaker c.make_room_to_tell.result (λ room. rw same fixed) c.make_room_to_tell.ensures.told
