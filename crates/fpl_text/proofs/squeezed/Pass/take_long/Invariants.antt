use Rattle.std.proofs.Common.{◌-◌, ◌≤◌, length, take}
use Rattle.fpl_text.specs.Borders.{IsNoted}
use Rattle.fpl_text.specs.Passes.{IsPass}
use Rattle.fpl_text.proofs.squeezed.Pass.take_long.Given as goal

abbrev pub invariant-longs : goal.invariant-longs
invariant-longs l = record {
  pass : IsPass l.text l.out l.pass.place l.pass.made l.pass.border;
  noted : IsNoted (take l.pass.made l.out) l.fn.most l.borders;
  further : l.fn.self.place ≤ l.pass.place;
}

abbrev pub decreases-longs : goal.decreases-longs
decreases-longs l = length l.text - l.pass.place
