use Rattle.std.proofs.Common.{ap}
use Rattle.std.specs.Io.KnownBytes.{prepend_known}
use Rattle.flow_input.specs.Source.{IntakeView}
use Rattle.flow_input.proofs.InTurn.{EndsWithin-ok, GivesNext-ok, SameTotal-missed, SameTotal-ok}
use Rattle.flow_input.proofs.Sources.{CutsFirst-ok, MissesFirst-given}
use Rattle.flow_input.proofs.intake.Intake.next.Goals as goal

pub returns-clause-cuts : goal.returns-clause-cuts
returns-clause-cuts g c =
    CutsFirst-ok g.row.A.Denot c.next_frame-result.result c.self.inside.input c.next_frame-result.new.input (g.R.Read.remaining c.self.inside.reader.device) (g.R.Read.remaining c.next_frame-result.new.reader.device) c.args.self.now.left
    c.next_frame-result.ensures.gives c.next_frame-result.ensures.agrees (ap (λ (s : IntakeView). s.left) c.self.view_is)

pub returns-clause-frames : goal.returns-clause-frames
returns-clause-frames g c =
    GivesNext-ok g.row.A.Denot c.next_frame-result.result c.args.self.now.left (prepend_known c.next_frame-result.new.input.unread (g.R.Read.remaining c.next_frame-result.new.reader.device)) (returns-clause-cuts g c)

pub returns-clause-taken : goal.returns-clause-taken
returns-clause-taken g c =
    SameTotal-ok g.row.A.Denot c.next_frame-result.result c.self.inside.input c.next_frame-result.new.input (g.R.Read.remaining c.self.inside.reader.device) (g.R.Read.remaining c.next_frame-result.new.reader.device) c.args.self.now.left c.args.self.now.taken
    c.next_frame-result.ensures.gives (ap (λ (s : IntakeView). s.left) c.self.view_is) (ap (λ (s : IntakeView). s.taken) c.self.view_is)

pub returns-clause-end : goal.returns-clause-end
returns-clause-end g c =
    EndsWithin-ok g.row.A.Denot c.next_frame-result.result c.args.self.now.taken c.next_frame-result.new.input.taken c.args.self.now.left (prepend_known c.next_frame-result.new.input.unread (g.R.Read.remaining c.next_frame-result.new.reader.device))
    (returns-clause-cuts g c) (returns-clause-taken g c) c.next_frame-result.ensures.most

pub returns-clause-memory : goal.returns-clause-memory
returns-clause-memory g c = λ e.
    let m = c.next_frame-result.ensures.memory e in
    let left = ap (λ (s : IntakeView). s.left) c.self.view_is in (
      MissesFirst-given c.self.inside.input c.next_frame-result.new.input (g.R.Read.remaining c.self.inside.reader.device) (g.R.Read.remaining c.next_frame-result.new.reader.device) c.args.self.now.left m.0 m.1 left,
      SameTotal-missed c.self.inside.input c.next_frame-result.new.input (g.R.Read.remaining c.self.inside.reader.device) (g.R.Read.remaining c.next_frame-result.new.reader.device) c.args.self.now.left c.args.self.now.taken m.0 left
          (ap (λ (s : IntakeView). s.taken) c.self.view_is),
      c.next_frame-result.ensures.room e,
    )
