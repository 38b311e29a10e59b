use Rattle.std.proofs.Common.{refl, ◌∙◌}
use Rattle.flow_live.proofs.Followings.{Follows-next, Follows-start}
use Rattle.flow_live.proofs.shared.Shared.follow_on.Goals as goal

pub loop-init : goal.loop-init
loop-init g c = record {
  follows = Follows-start g.N.Name.setup c.args.following.now (g.O.Write.contents c.args.out.now.device);
  calm = refl;
}

pub loop-preserved : goal.loop-preserved
loop-preserved g c = record {
  follows = Follows-next g.N.Name.setup c.args.following.now c.loop.following c.catch_up.new.following c.catch_up.new.following (g.O.Write.contents c.args.out.now.device) (g.O.Write.contents c.loop.out.device) (g.O.Write.contents c.catch_up.new.out.device)
      c.loop.invariant.follows c.catch_up.ensures.later c.in_default-catch_up.ensures.lawful c.in_default-catch_up.ensures.written refl;
  calm = c.in_default-catch_up.ensures.calm ∙ c.loop.invariant.calm;
}

pub returns-then-not-heard-clause-written : goal.returns-then-not-heard-clause-written
returns-then-not-heard-clause-written g c =
    (Follows-next g.N.Name.setup c.args.following.now c.loop.following c.catch_up.new.following c.catch_up.new.following (g.O.Write.contents c.args.out.now.device) (g.O.Write.contents c.loop.out.device) (g.O.Write.contents c.catch_up.new.out.device)
    c.loop.invariant.follows c.catch_up.ensures.later c.in_default-catch_up.ensures.lawful c.in_default-catch_up.ensures.written refl).wrote
