use Rattle.std.proofs.Common.{◌≡◌, ◌<◌, ◌-◌, length, sym, ap, ◌∙◌, arith}
use Rattle.flow_plans.specs.Plans.{with_state}
use Rattle.flow_plans.specs.Chains.{flight_of_key}
use Rattle.flow_plans.proofs.ChainMoves.{head-within}
use Rattle.flow_plans.proofs.Backs.{ended-back}
use Rattle.flow_plans.proofs.Keepings.{plan-stood, changed-length, chained-changed, filed-stays, ended-room, not-cancelled}
use Rattle.flow_plans.proofs.store.end_plan.Goals.{in-Cancelled, in_default}
use Rattle.flow_plans.proofs.store.end_plan.Goals as goal

pub leave-requires-clause-number : goal.leave-requires-clause-number
leave-requires-clause-number g c =
    let within = rw c.as_slice.ensures at c.in_ok-number.ensures.within in
    (within.0, omega (arith, within.1, c.requires.chained.count))

pub leave-requires-clause-within : goal.leave-requires-clause-within
leave-requires-clause-within g c =
    omega (arith, head-within c.args.chains.now c.args.plans.now c.of_key-name.result c.requires.chained, c.requires.chained.count)

pub returns-clause-back : goal.returns-clause-back
returns-clause-back g c =
    let n = c.in_ok-number.ensures in
    let h : c.in_ok-number.number - 1 < length c.args.plans.now = omega (arith, rw c.as_slice.ensures at n.within) in
    rw c.set_state.ensures (ended-back c.args.state c.in_ok-number.number c.args.plans.now h (rw c.as_slice.ensures at n.filed))

pub returns-clause-count : goal.returns-clause-count
returns-clause-count g c = rw c.set_state.ensures (changed-length (with_state c.args.state) c.in_ok-number.number c.args.plans.now)

pub returns-clause-chained : goal.returns-clause-chained
returns-clause-chained g c = elim c.match-state.branch [
  | in-Cancelled w ↦
      let within = rw c.as_slice.ensures at c.in_ok-number.ensures.within in
      let stood = rw w.as_slice-in-Cancelled.ensures at w.index-as_slice-number.is in
      let name : w.of_key-name.result ≡ flight_of_key w.index-as_slice-number.result.key = w.of_key-name.ensures ∙ ap (λ k. flight_of_key k) w.key.ensures in
      rw (w.chains-is, c.set_state.ensures, w.in-Cancelled.is)
      (w.leave.ensures.out c.args.plans.now c.requires.chained
      (rw (plan-stood c.args.plans.now c.in_ok-number.number w.index-as_slice-number.result within.0 within.1 stood) (sym name)))
  | in_default w ↦
      rw (w.chains-is, c.set_state.ensures)
      (chained-changed c.args.chains.now (with_state c.args.state) c.in_ok-number.number c.args.plans.now
      (filed-stays c.args.state c.in_ok-number.number c.args.plans.now (not-cancelled c.args.state w.in_default.not-Cancelled) (rw c.as_slice.ensures at c.in_ok-number.ensures.filed))
      c.requires.chained)
]

pub returns-clause-room : goal.returns-clause-room
returns-clause-room g c = elim c.match-state.branch [
  | in-Cancelled w ↦
      rw (w.chains-is, c.set_state.ensures)
      (ended-room c.args.chains.now w.leave.new.self c.args.state c.in_ok-number.number c.args.plans.now (rw c.as_slice.ensures at c.in_ok-number.ensures.filed)
      c.requires.chained w.leave.ensures.kept.0)
  | in_default w ↦
      rw (w.chains-is, c.set_state.ensures)
      (ended-room c.args.chains.now c.args.chains.now c.args.state c.in_ok-number.number c.args.plans.now (rw c.as_slice.ensures at c.in_ok-number.ensures.filed)
      c.requires.chained (λ name none. none))
]
