use Rattle.std.proofs.Common.{◌≡◌}
use Rattle.flow_live.proofs.Followings.{Follows}
use Rattle.flow_live.proofs.shared.Shared.catch_up.Given as goal

abbrev pub invariant-loop : goal.invariant-loop
invariant-loop g l = record {
  follows : Follows g.N.Name.setup l.initial.following l.following (g.O.Write.contents l.initial.out.device) (g.O.Write.contents l.out.device);
  calm : l.out.failures ≡ l.initial.out.failures;
}
