use Rattle.fpl_text.proofs.LookLemmas.{long-look}
use Rattle.fpl_text.proofs.squeezed.Look.of_two.Goals as goal

pub returns-clause-look : goal.returns-clause-look
returns-clause-look c f low high =
    long-look f c.args.first c.args.second _ _ _ _ _ _ low high
    (record { low = c.joined.ensures.first; high = c.joined.ensures.second }) c.bits_from.ensures.bits c.bits_from-2.ensures.bits
    (record { low = c.joined-2.ensures.first; high = c.joined-2.ensures.second }) c.bits_from-3.ensures.bits c.bits_from-4.ensures.bits
    (c.are_accepted.ensures.first c.if-not-are_accepted.false) (c.are_accepted.ensures.second c.if-not-are_accepted.false)
