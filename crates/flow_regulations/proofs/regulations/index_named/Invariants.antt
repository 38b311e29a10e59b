use Rattle.std.proofs.Common.{◌≡◌, drop}
use Rattle.std.specs.List.{list_any}
use Rattle.flow_regulations.specs.Listing.{is_named}
use Rattle.flow_regulations.proofs.regulations.index_named.Given as goal

abbrev pub invariant-loop-index : goal.invariant-loop-index
invariant-loop-index g l = list_any (is_named l.id) (drop l.index l.regulations) ≡ list_any (is_named l.id) l.regulations
