use Rattle.std.proofs.Common.{◌≡◌, drop}
use Rattle.flow_regulations.specs.Listing.{lineup_named}
use Rattle.flow_regulations.proofs.regulations.list_named.Given as goal

abbrev pub invariant-loop-regulation : goal.invariant-loop-regulation
invariant-loop-regulation g l = lineup_named l.id (drop l.regulation-index l.regulations) ≡ lineup_named l.id l.regulations
