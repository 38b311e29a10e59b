use Rattle.std.proofs.Common.{arith, ap, sym, ◌∙◌}
use Rattle.fpl_items.specs.Items.{items_of}
use Rattle.fpl_items.specs.Estimates.{estimate_count}
use Rattle.fpl_items.proofs.OtherLemmas.{zero-tells, count-fits}
use Rattle.fpl_items.proofs.other.Effects.read.Goals as goal

pub returns-then-eq-clause-tells : goal.returns-then-eq-clause-tells
returns-then-eq-clause-tells c = zero-tells c.args.field.now c.none.result (rw c.as_slice.ensures at (sym c.eq.ensures ∙ c.if-eq.true)) c.none.ensures

pub read_items-requires : goal.read_items-requires
read_items-requires c = omega (arith, ap (λ words. estimate_count (items_of words)) c.new.ensures, count-fits c.args.field.now)
