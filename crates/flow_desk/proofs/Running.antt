-- What a feed has filed, text by text.
use Rattle.std.proofs.Common.{◌≡◌, List, [], ◌∷◌, ◌++◌, map, refl, sym, ap, subst, ◌∙◌, append_assoc, length-append, arith}
use Rattle.std.proofs.lemmas.List.{map-append, append-nil}
use mathlib.Core.List.{IsPrefix}
use Rattle.fpl_message.specs.Filings.{FilingView}
use Rattle.flow_plans.specs.Settings.{SetupView}
use Rattle.flow_core.specs.declared.receipt.Receipt.{Receipt}
use Rattle.flow_core.specs.State.{EntryView}
use Rattle.flow_desk.specs.Histories.{own}
use Rattle.flow_desk.specs.FeederPasses.{PassView, Filed, SawMore, entry}
use Rattle.flow_desk.specs.Feeds.{Ran}
use Rattle.flow_desk.proofs.Fronts.{prefix_self, prefix_trans, prefix_snoc}
use Rattle.flow_desk.proofs.Owning.{own-snoc}

abbrev text : EntryView → FilingView
text e = e.input.text

abbrev answer : EntryView → Receipt
answer e = e.receipt

-- nothing was filed yet
pub ran-none : (p : PassView) (feed : List FilingView) → Ran p feed p [] feed
ran-none p feed = record {
  entries = [];
  later = prefix_self p.seen;
  feeder = refl;
  counted = omega arith;
  own_are = sym (append-nil (own p.feeder p.seen));
  texts = refl;
  answers = refl;
}

-- one more text was filed
pub ran-more : (setup : SetupView) (p q q' : PassView) (feed : List FilingView) (rs : List Receipt) (t : FilingView) (left : List FilingView) (r : Receipt)
    → Filed setup q t r q' → Ran p feed q rs (t ∷ left) → Ran p feed q' (rs ++ r ∷ []) left
ran-more setup p q q' feed rs t left r f h =
    let e : EntryView = entry q.feeder t r in
    let own_before : own q.feeder f.before ≡ own p.feeder p.seen ++ h.entries = f.none_own ∙ h.own_are in
    let own_after : own q'.feeder q'.seen ≡ (own p.feeder p.seen ++ h.entries) ++ e ∷ [] =
    rw (f.feeder, f.seen) (own-snoc q.feeder f.before e refl ∙ ap (λ (es : List EntryView). es ++ e ∷ []) own_before) in
    record {
      entries = h.entries ++ e ∷ [];
      later = prefix_trans p.seen q.seen q'.seen h.later (subst (λ (l : List EntryView). IsPrefix q.seen l) (sym f.seen) (prefix_snoc q.seen f.before e f.later));
      feeder = f.feeder ∙ h.feeder;
      counted = omega (arith, f.receipts, h.counted, length-append h.entries (e ∷ []));
      own_are = own_after ∙ append_assoc (own p.feeder p.seen) h.entries (e ∷ []);
      texts = ap (λ (ts : List FilingView). ts ++ left) (map-append text h.entries (e ∷ [])) ∙ (append_assoc (map text h.entries) (t ∷ []) left ∙ h.texts);
      answers = map-append answer h.entries (e ∷ []) ∙ ap (λ (rs : List Receipt). rs ++ r ∷ []) h.answers;
    }

-- the pass saw more, but none of its own
pub ran-same : (p q q' : PassView) (feed : List FilingView) (rs : List Receipt) (left : List FilingView)
    → SawMore q q' → own q'.feeder q'.seen ≡ own q.feeder q.seen → Ran p feed q rs left → Ran p feed q' rs left
ran-same p q q' feed rs left more none h = record {
  entries = h.entries;
  later = prefix_trans p.seen q.seen q'.seen h.later more.later;
  feeder = more.feeder ∙ h.feeder;
  counted = more.receipts ∙ h.counted;
  own_are = none ∙ h.own_are;
  texts = h.texts;
  answers = h.answers;
}
