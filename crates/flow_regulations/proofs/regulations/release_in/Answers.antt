use Rattle.std.proofs.Common.{ℕ, ◌<◌, List, length, arith}
use Rattle.flow_regulations.specs.Listing.{RegulationView, IsReleased}
use Rattle.flow_regulations.proofs.Walks.{walked-step}
use Rattle.flow_regulations.proofs.regulations.release_in.Goals as goal

pub loop-regulation-preserved : goal.loop-regulation-preserved
loop-regulation-preserved g c =
    let s = c.loop-regulation in
    let ys : List RegulationView = s.regulations in
    let e = c.release.ensures in
    let i : ℕ = s.regulation-index in
    let within : i < length ys = omega (arith, c.loop-regulation-test.true) in
    walked-step (IsReleased c.args.number c.args.plans.now.taxi c.args.plans.now.plans) i c.args.regulations.now ys c.regulation-item.result c.release.new.self within (record { id = e.id; same = e.released; capacity = e.capacity }) s.invariant
