use Rattle.std.proofs.Common.{◌<◌, length, arith}
use Rattle.fpl_message.specs.KeptChanges.{kept}
use Rattle.fpl_message.proofs.ModificationLemmas.{amended-on}
use Rattle.fpl_message.proofs.changes.Changes.amend_from.Goals as goal

pub loop-place-preserved : goal.loop-place-preserved
loop-place-preserved g c =
    let fields = c.args.fields.now in
    let place = c.loop-place.place in
    let within : place < length fields = omega arith in
    record {
      walk = amended-on fields place (kept fields c.loop-place.self) (kept fields c.amend.new.self) _ within c.in_ok-amend.ensures.change c.loop-place.invariant.walk;
      stand = λ h. c.in_ok-amend.ensures.stand (c.loop-place.invariant.stand h);
    }
