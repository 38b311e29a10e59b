use Rattle.std.proofs.Common.{List, refl, subst, sym, ◌∙◌}
use mathlib.Core.List.{IsPrefix}
use Rattle.flow_core.specs.State.{EntryView}
use Rattle.flow_desk.proofs.Fronts.{prefix_trans}
use Rattle.flow_live.proofs.Followings.{Follows, Follows-next, Follows-start}
use Rattle.flow_live.proofs.shared.Shared.catch_up.Goals as goal

pub loop-init : goal.loop-init
loop-init g c = record {
  follows = Follows-start g.N.Name.setup c.args.following.now (g.O.Write.contents c.args.out.now.device);
  calm = refl;
}

pub loop-preserved : goal.loop-preserved
loop-preserved g c = record {
  follows = Follows-next g.N.Name.setup c.args.following.now c.following.inside.follower c.write_next.new.follower c.replay_some.new.self (g.O.Write.contents c.args.out.now.device) (g.O.Write.contents c.loop.out.device) (g.O.Write.contents c.write_next.new.out.device)
      (subst (λ (es : List EntryView). Follows g.N.Name.setup c.args.following.now es (g.O.Write.contents c.args.out.now.device) (g.O.Write.contents c.loop.out.device)) (sym c.following.view_is) c.loop.invariant.follows)
      c.write_next.ensures.later c.in_ok-written.ensures.lawful c.in_ok-written.ensures.written c.replay_some.ensures;
  calm = c.in_ok-written.ensures.calm ∙ c.loop.invariant.calm;
}

pub returns-then-written-lt-AT_ONCE-clause-later : goal.returns-then-written-lt-AT_ONCE-clause-later
returns-then-written-lt-AT_ONCE-clause-later g c =
    (Follows-next g.N.Name.setup c.args.following.now c.following.inside.follower c.write_next.new.follower c.replay_some.new.self (g.O.Write.contents c.args.out.now.device) (g.O.Write.contents c.loop.out.device) (g.O.Write.contents c.write_next.new.out.device)
    (subst (λ (es : List EntryView). Follows g.N.Name.setup c.args.following.now es (g.O.Write.contents c.args.out.now.device) (g.O.Write.contents c.loop.out.device)) (sym c.following.view_is) c.loop.invariant.follows)
    c.write_next.ensures.later c.in_ok-written.ensures.lawful c.in_ok-written.ensures.written c.replay_some.ensures).later

pub returns-then-written-lt-AT_ONCE-clause-written : goal.returns-then-written-lt-AT_ONCE-clause-written
returns-then-written-lt-AT_ONCE-clause-written g c =
    (Follows-next g.N.Name.setup c.args.following.now c.following.inside.follower c.write_next.new.follower c.replay_some.new.self (g.O.Write.contents c.args.out.now.device) (g.O.Write.contents c.loop.out.device) (g.O.Write.contents c.write_next.new.out.device)
    (subst (λ (es : List EntryView). Follows g.N.Name.setup c.args.following.now es (g.O.Write.contents c.args.out.now.device) (g.O.Write.contents c.loop.out.device)) (sym c.following.view_is) c.loop.invariant.follows)
    c.write_next.ensures.later c.in_ok-written.ensures.lawful c.in_ok-written.ensures.written c.replay_some.ensures).wrote

pub returns-in_err-written-clause-later : goal.returns-in_err-written-clause-later
returns-in_err-written-clause-later g c =
    prefix_trans c.args.following.now c.following.inside.follower c.write_next.new.follower (subst (λ (es : List EntryView). IsPrefix c.args.following.now es) (sym c.following.view_is) c.loop.invariant.follows.later) c.write_next.ensures.later
