use Rattle.std.proofs.Common.{◌≡◌, ◌∙◌, ◌≤◌, ◌+◌, true, false, sym, ap, arith}
use Rattle.std.specs.List.{list_any}
use Rattle.flow_plans.specs.declared.plan.Key.{Key}
use Rattle.flow_plans.specs.Plans.{is_held_as}
use Rattle.flow_plans.specs.Changes.{key_of}
use Rattle.flow_plans.proofs.Filings.{is-earlier, filed-past, filed-held, filed-full, filed-last}
use Rattle.flow_plans.proofs.store.why_refused.Goals as goal

pub returns-then-lt-clause-refused : goal.returns-then-lt-clause-refused
returns-then-lt-clause-refused g c =
    filed-past c.args.max_plans c.args.now c.in-Some.off_block c.args.plans.now c.args.message.now c.in-Some.ensures (sym (c.if-lt.ensures ∙ is-earlier c.in-Some.off_block c.args.now))

pub returns-then-holds_key-clause-refused : goal.returns-then-holds_key-clause-refused
returns-then-holds_key-clause-refused g c =
    let soon : c.in-Some.off_block ≤ c.args.now + 7200 = omega (arith, c.if-minutes.false, c.minutes.ensures.value, c.minutes-2.ensures.value) in
    let held : list_any (is_held_as (key_of c.in-Some.off_block c.args.message.now)) c.args.plans.now ≡ true =
    ap (λ (k : Key). list_any (is_held_as k) c.args.plans.now) (sym c.key_of.ensures) ∙ sym c.holds_key.ensures ∙ c.if-holds_key.true in
    filed-held c.args.max_plans c.args.now c.in-Some.off_block c.args.plans.now c.args.message.now c.in-Some.ensures (sym (c.if-lt.ensures ∙ is-earlier c.in-Some.off_block c.args.now)) soon held

pub returns-then-plans-max_plans-clause-refused : goal.returns-then-plans-max_plans-clause-refused
returns-then-plans-max_plans-clause-refused g c =
    let soon : c.in-Some.off_block ≤ c.args.now + 7200 = omega (arith, c.if-minutes.false, c.minutes.ensures.value, c.minutes-2.ensures.value) in
    let free : list_any (is_held_as (key_of c.in-Some.off_block c.args.message.now)) c.args.plans.now ≡ false =
    ap (λ (k : Key). list_any (is_held_as k) c.args.plans.now) (sym c.key_of.ensures) ∙ sym c.holds_key.ensures ∙ c.if-holds_key.false in
    filed-full c.args.max_plans c.args.now c.in-Some.off_block c.args.plans.now c.args.message.now c.in-Some.ensures (sym (c.if-lt.ensures ∙ is-earlier c.in-Some.off_block c.args.now)) soon free c.if-plans-max_plans.true

pub returns-clause-ok : goal.returns-clause-ok
returns-clause-ok g c =
    let soon : c.in-Some.off_block ≤ c.args.now + 7200 = omega (arith, c.if-minutes.false, c.minutes.ensures.value, c.minutes-2.ensures.value) in
    let free : list_any (is_held_as (key_of c.in-Some.off_block c.args.message.now)) c.args.plans.now ≡ false =
    ap (λ (k : Key). list_any (is_held_as k) c.args.plans.now) (sym c.key_of.ensures) ∙ sym c.holds_key.ensures ∙ c.if-holds_key.false in
    filed-last c.args.max_plans c.args.now c.in-Some.off_block c.args.plans.now c.args.message.now c.in-Some.ensures (sym (c.if-lt.ensures ∙ is-earlier c.in-Some.off_block c.args.now)) soon free c.if-plans-max_plans.false
