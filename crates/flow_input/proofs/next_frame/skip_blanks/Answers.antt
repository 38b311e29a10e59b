use Rattle.std.proofs.Common.{sym, ap, subst, ◌≡◌, ◌∙◌, List, ℕ, length, position, unwrap_or, Option}
use Rattle.flow_input.specs.Frames.{is_not_blank}
use Rattle.flow_input.specs.Reader.{BeginsWithStop}
use Rattle.flow_input.proofs.Runs.{none-before-found, stop-behind-found, found-within}
use Rattle.flow_input.proofs.Takes.{TookRun-of}
use Rattle.flow_input.proofs.next_frame.skip_blanks.Goals as goal

pub returns-clause-took : goal.returns-clause-took
returns-clause-took g c =
    let old = c.args.input.now in
    let found : c.unwrap_or-count.result ≡ unwrap_or (position is_not_blank old.unread) (length old.unread) =
    c.unwrap_or-count.ensures ∙ ap (λ (o : Option ℕ). unwrap_or o (length c.unread-unread.result.now)) c.text_in.ensures
    ∙ ap (λ (bs : List ℕ). unwrap_or (position is_not_blank bs) (length bs)) c.unread-unread.ensures in
    TookRun-of is_not_blank old c.skip.new.self c.unwrap_or-count.result
    (none-before-found is_not_blank old.unread c.unwrap_or-count.result found) c.skip.ensures.unread c.skip.ensures.taken (found-within is_not_blank old.unread c.unwrap_or-count.result found)

pub returns-clause-stop : goal.returns-clause-stop
returns-clause-stop g c =
    let old = c.args.input.now in
    let found : c.unwrap_or-count.result ≡ unwrap_or (position is_not_blank old.unread) (length old.unread) =
    c.unwrap_or-count.ensures ∙ ap (λ (o : Option ℕ). unwrap_or o (length c.unread-unread.result.now)) c.text_in.ensures
    ∙ ap (λ (bs : List ℕ). unwrap_or (position is_not_blank bs) (length bs)) c.unread-unread.ensures in
    subst (λ (bs : List ℕ). BeginsWithStop is_not_blank bs) (sym c.skip.ensures.unread) (stop-behind-found is_not_blank old.unread c.unwrap_or-count.result found)
