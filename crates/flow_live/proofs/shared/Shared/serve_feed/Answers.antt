use Rattle.std.proofs.Common.{◌≡◌, ℕ, List, refl, sym, subst, ◌∙◌}
use Rattle.flow_core.proofs.Serves.{err_is}
use Rattle.flow_core.specs.State.{EntryView}
use Rattle.flow_desk.specs.Histories.{IsLawful}
use Rattle.flow_live.specs.Feeding.{source_failures}
use Rattle.flow_live.specs.Keeping.{AnswersOnly}
use Rattle.flow_live.proofs.Onlys.{only-none}
use Rattle.flow_live.proofs.Pieces.{Feeds-start, Piece-ends, Piece-goes, Fed-finished, Fed-fault, fault-source, fault-sink, piece-source}
use Rattle.flow_live.proofs.shared.Shared.serve_feed.Goals as goal

pub pieces-init : goal.pieces-init
pieces-init g c = record {
  agrees = rw c.in-Ok.ensures (λ e. absurd (cc));
  none = c.new-batch.ensures.none.0;
  seen = record {
    seen_is = c.new-batch.ensures.seen ∙ c.follower_of.ensures.follower;
    lawful = subst (λ (es : List EntryView). IsLawful g.N.Name.setup es) (sym c.new-batch.ensures.seen) c.follower_of.ensures.lawful;
    only = subst (λ (t : List ℕ). AnswersOnly g.N.Name.setup c.new-batch.result.seen t) (sym c.new-batch.ensures.none.1) (only-none g.N.Name.setup c.new-batch.result.seen);
  };
  feeds = λ lawful. Feeds-start g.N.Name.setup c.args.pass.now c.follower_of.new.pass (g.W.Write.contents c.args.writer.now.device) (g.R.Read.remaining c.args.reader.now.device) c.in-Ok.input c.follower_of.ensures.seen (subst (λ (es : List EntryView). IsLawful g.N.Name.setup es) c.follower_of.ensures.follower c.follower_of.ensures.lawful) c.in-Ok.ensures;
  source = refl;
  sink = refl;
}

pub returns-in-Ok-false-clause-fed : goal.returns-in-Ok-false-clause-fed
returns-in-Ok-false-clause-fed g c = λ lawful.
    Fed-finished g.N.Name.setup c.args.pass.now c.pieces.pass (g.W.Write.contents c.args.writer.now.device) (g.W.Write.contents c.pieces.writer.device) c.pieces.input (g.R.Read.remaining c.args.reader.now.device) (g.R.Read.remaining c.pieces.reader.device)
    (c.pieces.invariant.feeds lawful) c.take_frame.new.input (g.R.Read.remaining c.take_frame.new.reader.device) (rw c.in-Ok-false.field-0-test at c.in-Ok-false.ensures.cuts) c.in-Ok-false.ensures.agrees c.in-Ok-false.ensures.most

pub returns-in-Err-clause-fed : goal.returns-in-Err-clause-fed
returns-in-Err-clause-fed g c =
    Fed-fault c.in-Err.fault c.end_of.result g.N.Name.setup c.args.pass.now c.pieces.pass (g.W.Write.contents c.args.writer.now.device) (g.W.Write.contents c.pieces.writer.device) c.pieces.input (g.R.Read.remaining c.args.reader.now.device) (g.R.Read.remaining c.pieces.reader.device) (g.R.Read.remaining c.take_frame.new.reader.device)
    c.end_of.ensures c.pieces.invariant.feeds c.in-Err.ensures.going (λ e. c.in-Err.ensures.read (err_is e)) (λ e. c.in-Err.ensures.much (err_is e))

pub returns-in-Err-clause-source : goal.returns-in-Err-clause-source
returns-in-Err-clause-source g c =
    subst (λ (n : ℕ). c.take_frame.new.reader.failures ≡ source_failures c.end_of.result n) c.pieces.invariant.source
    (fault-source c.in-Err.fault c.end_of.result c.pieces.reader.failures c.take_frame.new.reader.failures c.end_of.ensures c.in-Err.ensures.failures)

pub returns-in-Err-clause-sink : goal.returns-in-Err-clause-sink
returns-in-Err-clause-sink g c = fault-sink c.in-Err.fault c.end_of.result c.args.writer.now.failures c.pieces.writer.failures c.end_of.ensures c.pieces.invariant.sink

pub returns-in-Err-answer_piece-clause-source : goal.returns-in-Err-answer_piece-clause-source
returns-in-Err-answer_piece-clause-source g c =
    piece-source c.answer_piece.result c.in-Err-answer_piece.end g.N.Name.setup c.pieces.pass c.answer_piece.new.pass (g.W.Write.contents c.pieces.writer.device) (g.W.Write.contents c.answer_piece.new.writer.device) c.take_frame.new.input c.answer_piece.new.input
    c.args.reader.now.failures c.take_frame.new.reader.failures c.in-Err-answer_piece.is c.answer_piece.ensures.piece (c.in-Ok-true.ensures.failures ∙ c.pieces.invariant.source)

pub returns-in-Err-answer_piece-clause-fed : goal.returns-in-Err-answer_piece-clause-fed
returns-in-Err-answer_piece-clause-fed g c = rw c.in-Err-answer_piece.is at (
    Piece-ends c.answer_piece.result g.N.Name.setup c.args.pass.now c.pieces.pass c.answer_piece.new.pass (g.W.Write.contents c.args.writer.now.device) (g.W.Write.contents c.pieces.writer.device) (g.W.Write.contents c.answer_piece.new.writer.device)
    c.pieces.input c.take_frame.new.input c.answer_piece.new.input (g.R.Read.remaining c.args.reader.now.device) (g.R.Read.remaining c.pieces.reader.device) (g.R.Read.remaining c.take_frame.new.reader.device)
    c.answer_piece.ensures.piece c.pieces.invariant.feeds (rw c.in-Ok-true.field-0-test at c.in-Ok-true.ensures.cuts) c.in-Ok-true.ensures.agrees)

pub pieces-preserved : goal.pieces-preserved
pieces-preserved g c = record {
  agrees = c.in_default-answer_piece.ensures.agrees (g.R.Read.remaining c.take_frame.new.reader.device) c.in-Ok-true.ensures.agrees;
  none = c.in_default-answer_piece.ensures.none;
  seen = c.in_default-answer_piece.ensures.seen;
  feeds = Piece-goes c.answer_piece.result g.N.Name.setup c.args.pass.now c.pieces.pass c.answer_piece.new.pass (g.W.Write.contents c.args.writer.now.device) (g.W.Write.contents c.pieces.writer.device) (g.W.Write.contents c.answer_piece.new.writer.device)
      c.pieces.input c.take_frame.new.input c.answer_piece.new.input (g.R.Read.remaining c.args.reader.now.device) (g.R.Read.remaining c.pieces.reader.device) (g.R.Read.remaining c.take_frame.new.reader.device) c.in_default-answer_piece.field-0 c.in_default-answer_piece.is
      c.answer_piece.ensures.piece c.pieces.invariant.feeds (rw c.in-Ok-true.field-0-test at c.in-Ok-true.ensures.cuts) c.in-Ok-true.ensures.agrees;
  source = c.in-Ok-true.ensures.failures ∙ c.pieces.invariant.source;
  sink = (rw c.in_default-answer_piece.is at c.answer_piece.ensures.failures) ∙ c.pieces.invariant.sink;
}
