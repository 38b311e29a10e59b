use Rattle.std.proofs.Common.{ℕ, List, sym, subst}
use Rattle.flow_live.specs.Keeping.{AnswersOnly}
use Rattle.flow_live.proofs.Pieces.{Piece-all}
use Rattle.flow_live.proofs.Onlys.{only-later}
use Rattle.flow_live.proofs.shared.Shared.answer_piece.Goals as goal

pub answer-requires : goal.answer-requires
answer-requires g c =
    subst (λ (t : List ℕ). AnswersOnly g.N.Name.setup c.in-Ok-commit.stored t) (sym c.as_slice.ensures.value)
    (only-later g.N.Name.setup c.answer_taken.new.batch.seen c.in-Ok-commit.stored c.answer_taken.new.batch.answers.items c.in-Ok-commit.ensures.stored c.in-Ok-commit.ensures.lawful c.in-Ok.ensures.seen.only)

pub returns-clause-piece : goal.returns-clause-piece
returns-clause-piece g c =
    Piece-all c.answer.result g.N.Name.setup c.args.pass.now c.answer_taken.new.pass c.answer_taken.new.batch.answers.items (g.W.Write.contents c.args.writer.now.device) (g.W.Write.contents c.answer.new.writer.device) c.args.input.now c.answer_taken.new.input
    c.in-Ok.ensures.serving (rw c.as_slice.ensures.value at c.answer.ensures.writes.ok) (rw c.as_slice.ensures.value at c.answer.ensures.writes.err) c.answer.ensures.kind
