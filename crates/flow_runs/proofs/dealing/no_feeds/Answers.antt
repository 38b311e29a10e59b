use Rattle.std.proofs.Common.{◌≡◌, ℕ, [], List, map, arith, ◌∙◌, ap}
use Rattle.std.proofs.Math.ListN.{replicate}
use Rattle.fpl_message.specs.Filings.{FilingView}
use Rattle.flow_runs.proofs.Dealings.{AreDealt-none}
use Rattle.flow_runs.proofs.dealing.no_feeds.Goals as goal

pub returns-clause-none : goal.returns-clause-none
returns-clause-none g c =
    let all : c.loop.counter ≡ c.args.feeders = omega arith in
    AreDealt-none c.args.feeders c.loop.feeds.items (c.loop.invariant.empty ∙ ap (λ (n : ℕ). replicate {A = List FilingView} n []) all)
