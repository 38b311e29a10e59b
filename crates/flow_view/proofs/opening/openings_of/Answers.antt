use Rattle.std.proofs.Common.{◌≡◌, ◌∙◌, ℕ, List, ap, sym, length, map, arith, slice_get}
use Rattle.std.specs.Option.{option_map_or}
use Rattle.std.proofs.Math.Numerals.{add-one}
use Rattle.flow_core.specs.History.{History, state_of}
use Rattle.flow_view.specs.Openings.{OpeningView, after_entry, openings_after, shown_now}
use Rattle.flow_view.proofs.Lists.{ok-also}
use Rattle.flow_view.proofs.opening.openings_of.Goals as goal

pub loop-index-preserved : goal.loop-index-preserved
loop-index-preserved g c =
    let h : History = c.args.core.now in
    let i : ℕ = c.loop-index.index in
    record {
      setup = c.in_ok-openings.ensures.setup ∙ c.loop-index.invariant.setup;
      filed = c.in_ok-openings.ensures.filed;
      openings = c.in_ok-openings.ensures.made
          ∙ (ap (λ (os : List OpeningView). option_map_or (λ e. after_entry h i e os) (slice_get (state_of h).journal i) os) c.loop-index.invariant.openings
          ∙ ap (λ n. openings_after n h) (sym (add-one i)));
    }

pub returns : goal.returns
returns g c =
    let h : History = c.args.core.now in
    let all : c.loop-index.index ≡ length h.filed = omega (arith, c.loop-index-test.false, c.loop-index.auto.index-end, c.entries-index-end.ensures.filed) in
    ok-also c.all_shown_now.result _ _
    (λ made e. e ∙ ap (λ (os : List OpeningView). map (shown_now h) os) (c.loop-index.invariant.openings ∙ ap (λ n. openings_after n h) all))
    c.all_shown_now.ensures
