use Rattle.std.proofs.Common.{sym, refl, ◌∙◌}
use Rattle.fpl_items.proofs.KindsLemmas.{kind-not_letters}
use Rattle.fpl_items.proofs.route.kind_with_other.Goals as goal

pub returns-then-is_point : goal.returns-then-is_point
returns-then-is_point c = rw (kind-not_letters c.args.word.now c.requires, sym c.is_point.ensures ∙ c.if-is_point.true) refl

pub returns-then-is_change : goal.returns-then-is_change
returns-then-is_change c = rw (kind-not_letters c.args.word.now c.requires, sym c.is_point.ensures ∙ c.if-is_point.false, sym c.is_change.ensures ∙ c.if-is_change.true) refl

pub returns-then-is_climb : goal.returns-then-is_climb
returns-then-is_climb c = rw (kind-not_letters c.args.word.now c.requires, sym c.is_point.ensures ∙ c.if-is_point.false, sym c.is_change.ensures ∙ c.if-is_change.false, sym c.is_climb.ensures ∙ c.if-is_climb.true) refl

pub returns-then-is_designator : goal.returns-then-is_designator
returns-then-is_designator c = rw (kind-not_letters c.args.word.now c.requires, sym c.is_point.ensures ∙ c.if-is_point.false, sym c.is_change.ensures ∙ c.if-is_change.false, sym c.is_climb.ensures ∙ c.if-is_climb.false, sym c.is_designator.ensures ∙ c.if-is_designator.true) refl

pub returns-then-all_route_bytes : goal.returns-then-all_route_bytes
returns-then-all_route_bytes c = rw (kind-not_letters c.args.word.now c.requires, sym c.is_point.ensures ∙ c.if-is_point.false, sym c.is_change.ensures ∙ c.if-is_change.false, sym c.is_climb.ensures ∙ c.if-is_climb.false, sym c.is_designator.ensures ∙ c.if-is_designator.false, sym c.all_route_bytes.ensures ∙ c.if-all_route_bytes.true) refl

pub returns-else-all_route_bytes : goal.returns-else-all_route_bytes
returns-else-all_route_bytes c = rw (kind-not_letters c.args.word.now c.requires, sym c.is_point.ensures ∙ c.if-is_point.false, sym c.is_change.ensures ∙ c.if-is_change.false, sym c.is_climb.ensures ∙ c.if-is_climb.false, sym c.is_designator.ensures ∙ c.if-is_designator.false, sym c.all_route_bytes.ensures ∙ c.if-all_route_bytes.false) refl
