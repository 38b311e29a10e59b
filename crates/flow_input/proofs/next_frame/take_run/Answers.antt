use Rattle.std.proofs.Common.{sym, ap, subst, ◌≡◌, ◌∙◌, List, ℕ, length, position, unwrap_or, Option}
use Rattle.flow_input.specs.Reader.{BeginsWithStop}
use Rattle.flow_input.specs.Until.{stops_at}
use Rattle.flow_input.proofs.Runs.{none-before-found, stop-behind-found, found-within}
use Rattle.flow_input.proofs.Takes.{TookRun-of}
use Rattle.flow_input.proofs.next_frame.take_run.Goals as goal

pub returns-clause-took : goal.returns-clause-took
returns-clause-took g c =
    let old = c.args.input.now in
    let stops = stops_at c.args.until in
    let found : c.unwrap_or-count.result ≡ unwrap_or (position stops old.unread) (length old.unread) =
    c.unwrap_or-count.ensures ∙ ap (λ (o : Option ℕ). unwrap_or o (length c.unread-unread.result.now)) c.stop_in.ensures
    ∙ ap (λ (bs : List ℕ). unwrap_or (position stops bs) (length bs)) c.unread-unread.ensures in
    TookRun-of stops old c.skip.new.self c.unwrap_or-count.result
    (none-before-found stops old.unread c.unwrap_or-count.result found) c.skip.ensures.unread c.skip.ensures.taken (found-within stops old.unread c.unwrap_or-count.result found)

pub returns-clause-stop : goal.returns-clause-stop
returns-clause-stop g c =
    let old = c.args.input.now in
    let stops = stops_at c.args.until in
    let found : c.unwrap_or-count.result ≡ unwrap_or (position stops old.unread) (length old.unread) =
    c.unwrap_or-count.ensures ∙ ap (λ (o : Option ℕ). unwrap_or o (length c.unread-unread.result.now)) c.stop_in.ensures
    ∙ ap (λ (bs : List ℕ). unwrap_or (position stops bs) (length bs)) c.unread-unread.ensures in
    subst (λ (bs : List ℕ). BeginsWithStop stops bs) (sym c.skip.ensures.unread) (stop-behind-found stops old.unread c.unwrap_or-count.result found)
