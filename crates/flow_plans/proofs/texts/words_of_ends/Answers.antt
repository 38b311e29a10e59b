use Rattle.std.proofs.Common.{ℕ, ◌+◌, ap, ◌∙◌}
use Rattle.flow_plans.specs.Near.{word_at}
use Rattle.fpl_items.specs.Points.{bit_of}
use Rattle.flow_plans.proofs.NearLemmas.{or-first, or-second, bits-same}
use Rattle.flow_plans.proofs.texts.words_of_ends.Goals as goal

pub returns-clause-dep : goal.returns-clause-dep
returns-clause-dep c =
    let w : ℕ = word_at c.args.table.now (bit_of c.args.dep.now) in
    or-first c.word_at.result c.word_at-2.result w (bits-same c.word_at.result w (c.word_at.ensures ∙ ap (word_at c.args.table.now) c.bit_of.ensures.value))

pub returns-clause-dest : goal.returns-clause-dest
returns-clause-dest c =
    let w : ℕ = word_at c.args.table.now (64 + bit_of c.args.dest.now) in
    or-second c.word_at.result c.word_at-2.result w (bits-same c.word_at-2.result w (c.word_at-2.ensures ∙ ap (λ k. word_at c.args.table.now (64 + k)) c.bit_of-2.ensures.value))
