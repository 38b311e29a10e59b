use Rattle.std.proofs.Common.{◌-◌, ◌<◌, length, take}
use Rattle.fpl_text.specs.Borders.{IsNoted}
use Rattle.fpl_text.specs.Passes.{IsPass}
use Rattle.fpl_text.proofs.squeezed.squeeze.Given as goal

abbrev pub invariant-wholes : goal.invariant-wholes
invariant-wholes l = record {
  pass : IsPass l.text l.out l.pass.place l.pass.made l.pass.border;
  noted : IsNoted (take l.pass.made l.out) l.most l.borders;
}

abbrev pub decreases-wholes : goal.decreases-wholes
decreases-wholes l = length l.text - l.pass.place

abbrev pub invariant-rests : goal.invariant-rests
invariant-rests l = record {
  pass : IsPass l.text l.out l.pass.place l.pass.made l.pass.border;
  noted : IsNoted (take l.pass.made l.out) l.most l.borders;
  few : length l.text - l.pass.place < 32;
}

abbrev pub decreases-rests : goal.decreases-rests
decreases-rests l = length l.text - l.pass.place
