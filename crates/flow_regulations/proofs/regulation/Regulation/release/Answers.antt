use Rattle.std.proofs.Common.{sym, ap, ◌∙◌}
use Rattle.flow_regulations.specs.Regulations.{subject_to}
use Rattle.flow_regulations.specs.Listing.{RegulationView, regulation_of}
use Rattle.flow_regulations.proofs.Looked.{plan-there, out-within}
use Rattle.flow_regulations.proofs.regulation.Regulation.release.Goals as goal

pub release-requires-clause-entry : goal.release-requires-clause-entry
release-requires-clause-entry g c =
    let s = c.self.inside in
    let l : RegulationView = record { id = s.id; spot = s.spot; lineup = s.list.lineup } in
    let p = plan-there c.args.plans.now.plans c.args.number c.requires.some c.requires.within in
    out-within c.args.plans.now.taxi c.args.number c.in-Some.entry l l p.0 c.subject.result (c.subject.ensures p.0 p.1 ∙ ap (λ v. subject_to c.args.plans.now.taxi (regulation_of v) p.0) (sym c.self.view_is)) c.in-Some.is
