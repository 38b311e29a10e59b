use Rattle.flow_regulations.proofs.Stays.{quiet-untouched}
use Rattle.flow_regulations.proofs.laws.untouched_are_quiet.Goals as goal

pub returns : goal.returns
returns c = λ taxi changed before plans told after plans_after told_after same h number some out.
    quiet-untouched taxi number before plans told after plans_after told_after (same number some out) (h number some)
