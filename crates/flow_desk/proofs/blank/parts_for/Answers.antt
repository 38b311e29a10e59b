use Rattle.std.proofs.Common.{◌≡◌, ℕ, length, subst, sym, ◌∙◌, arith}
use Rattle.flow_core.specs.History.{state_of}
use Rattle.flow_desk.specs.Locks.{Counts}
use Rattle.flow_desk.proofs.blank.parts_for.Goals as goal

pub returns-clause-made : goal.returns-clause-made
returns-clause-made g c =
    let h = c.open_history-head.ensures in
    let p = c.in_ok-publisher.ensures in
    let s = c.settle-publisher.ensures in
    let same = c.seats_for.ensures.publisher in
    let long : length c.in_ok-seats.seats.items ≡ c.args.feeders = c.in_ok-seats.ensures.count in
    let wide : length c.in_ok-counts.counts.items ≡ length c.in_ok-seats.seats.items = c.in_ok-counts.ensures.len ∙ sym long in (
      long,
      record {
        book_is = h.0;
        entries_are = h.1;
        counted = subst (λ (n : ℕ). Counts n (state_of c.args.core.now).journal c.count_all.new.counts.items) wide c.count_all.ensures;
        writer = rw same (s.0, s.1 ∙ (p.0 ∙ h.0), s.2 ∙ p.1, s.3 ∙ p.2);
        free = λ k d in_k.
            let f = c.in_ok-seats.ensures.free k d in_k in
            (f.0, f.1 ∙ (s.1 ∙ (p.0 ∙ h.0)), f.2 ∙ (s.2 ∙ p.1), f.3 ∙ (s.3 ∙ p.2));
        few = omega (arith, long, c.requires.feeders.1);
      },
    )
