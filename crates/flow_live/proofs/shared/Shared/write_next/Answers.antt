use Rattle.std.proofs.Common.{◌≡◌, ℕ, List, ◌++◌, length, ap, sym, ◌∙◌, subst}
use Rattle.flow_plans.specs.Settings.{SetupView}
use Rattle.flow_core.specs.State.{EntryView}
use Rattle.flow_desk.specs.Followers.{unseen_answers}
use Rattle.flow_live.specs.Keeping.{AnswersOnly}
use Rattle.std.specs.Io.KnownBytes.{Appends}
use Rattle.flow_live.proofs.Followings.{Appends-kept}
use Rattle.flow_live.proofs.Onlys.{only-later, only-unseen}
use Rattle.flow_live.proofs.shared.Shared.write_next.Goals as goal

pub hand_on-requires : goal.hand_on-requires
hand_on-requires g c =
    let s : SetupView = g.N.Name.setup in
    let seen : List EntryView = c.follow.new.follower in
    let text : List ℕ = unseen_answers s (length c.args.follower.now) seen in
    let is : text ≡ c.as_slice.result.now =
    sym (c.as_slice.ensures.value ∙ (c.in-Ok.ensures.answers ∙ ap (λ (t : List ℕ). t ++ text) c.clear.ensures.items)) in
    subst (λ (t : List ℕ). AnswersOnly s c.in_ok-stored.stored t) is
    (only-later s seen c.in_ok-stored.stored text c.in_ok-stored.ensures.stored c.in_ok-stored.ensures.lawful (only-unseen s seen (length c.args.follower.now)))

pub returns-clause-written : goal.returns-clause-written
returns-clause-written g c =
    let begun = g.O.Write.contents c.args.out.now.device in
    let written = g.O.Write.contents c.hand_on.new.writer.device in
    let text : List ℕ = unseen_answers g.N.Name.setup (length c.args.follower.now) c.follow.new.follower in
    let is : c.as_slice.result.now ≡ text = c.as_slice.ensures.value ∙ (c.in-Ok.ensures.answers ∙ ap (λ (t : List ℕ). t ++ text) c.clear.ensures.items) in
    Appends-kept begun written (g.O.Write.contents c.flush.new.out.device) text (subst (λ (t : List ℕ). Appends begun written t) is c.in-Ok-hand_on.ensures.ok) c.flush.ensures.kept
