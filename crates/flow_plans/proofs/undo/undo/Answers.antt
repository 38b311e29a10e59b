use Rattle.std.proofs.Common.{◌≡◌, refl, sym, ap, subst, ◌∙◌, arith}
use Rattle.flow_plans.specs.declared.chains.FlightName.{FlightName}
use Rattle.flow_plans.specs.Plans.{with_off_block, with_former}
use Rattle.flow_plans.specs.Chains.{flight_of_key, HasRoomFor}
use Rattle.flow_plans.proofs.Keepings.{any-stays, chained-changed, changed-length}
use Rattle.flow_plans.proofs.ChainChanges.{changed-chained}
use Rattle.flow_plans.proofs.undo.undo.Goals as goal

pub returns-in-Delayed-clause-chained : goal.returns-in-Delayed-clause-chained
returns-in-Delayed-clause-chained g c =
    let n = c.in-Delayed.number in
    rw c.set_off_block.ensures
    (chained-changed c.args.chains.now (with_off_block c.in-Delayed.off_block) n c.args.plans.now
    (any-stays (with_off_block c.in-Delayed.off_block) n c.args.plans.now (λ p. (refl, refl))) c.requires.chained)

pub rename-requires-clause-room : goal.rename-requires-clause-room
rename-requires-clause-room g c =
    let named : c.of_key-name.result ≡ flight_of_key c.in-Amended.former.key = c.of_key-name.ensures ∙ ap (λ k. flight_of_key k) c.key.ensures in
    subst (λ (f : FlightName). HasRoomFor c.args.chains.now f) (sym named) (rw c.in-Amended.is at c.requires.room)

pub returns-in-Amended-clause-chained : goal.returns-in-Amended-clause-chained
returns-in-Amended-clause-chained g c =
    let former = c.in-Amended.former in
    let own = rw c.in-Amended.is at c.requires.number in
    let named : c.of_key-name.result ≡ flight_of_key former.key = c.of_key-name.ensures ∙ ap (λ k. flight_of_key k) c.key.ensures in
    rw c.restore.ensures
    (changed-chained (with_former former) (λ p. refl) c.args.plans.now c.in-Amended.number own.0 own.1 own.2 c.rename.new.self c.of_key-name.result
    (rw c.as_slice-in-Amended.ensures at c.rename.ensures.chained) (λ p there. sym named))

pub returns-in-Amended-clause-count : goal.returns-in-Amended-clause-count
returns-in-Amended-clause-count g c =
    rw c.restore.ensures (omega (arith, changed-length (with_former c.in-Amended.former) c.in-Amended.number c.args.plans.now))
