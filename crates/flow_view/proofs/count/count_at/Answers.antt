use Rattle.std.proofs.Common.{◌∙◌, ◌+◌, ◌*◌, ap}
use Rattle.std.specs.Prelude.{min}
use Rattle.fpl_text.specs.declared.minute.TheConstants.{GREATEST_MINUTE}
use Rattle.flow_view.specs.Counts.{count_in}
use Rattle.flow_view.proofs.count.count_at.Goals as goal

pub from_minutes-requires : goal.from_minutes-requires
from_minutes-requires c = rw c.minutes.ensures.value c.requires

pub returns : goal.returns
returns c =
    let w = c.args.windows.now in
    c.count_in.ensures
    ∙ (ap (λ m. count_in m c.from_minutes-2.result c.args.entrants.now) (c.from_minutes.ensures ∙ ap (λ m. m + w.slide * c.args.index) c.minutes.ensures.value)
    ∙ ap (λ m. count_in (w.from + w.slide * c.args.index) m c.args.entrants.now)
    (c.from_minutes-2.ensures ∙ (c.min-to.ensures ∙ ap (λ m. min (m + w.slide * c.args.index + w.step) GREATEST_MINUTE) c.minutes.ensures.value)))
