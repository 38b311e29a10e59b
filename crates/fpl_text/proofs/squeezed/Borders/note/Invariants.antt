use Rattle.std.proofs.Common.{take}
use Rattle.fpl_text.specs.Borders.{IsNoted}
use Rattle.fpl_text.proofs.BordersLemmas.{AreLeft}
use Rattle.fpl_text.proofs.squeezed.Borders.note.Given as goal

abbrev pub invariant-borders : goal.invariant-borders
invariant-borders l = record {
  left : AreLeft l.text l.fn.made l.fn.bits l.fn.count l.after l.later;
  noted : IsNoted (take l.after l.text) l.fn.most (record l.self { brackets = l.brackets });
}

abbrev pub decreases-borders : goal.decreases-borders
decreases-borders l = l.later
