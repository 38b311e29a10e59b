use Rattle.std.proofs.Common.{sym, refl, ◌∙◌}
use Rattle.fpl_items.proofs.RouteBytesLemmas.{none-routed, field-routed, field-path}
use Rattle.fpl_items.proofs.PathWords.{path-words}
use Rattle.fpl_items.proofs.route.is_route.Goals as goal

pub returns-in_default : goal.returns-in_default
returns-in_default c = sym (none-routed c.args.field.now (sym c.new-words.ensures ∙ c.in_default.ensures.steps.0))

pub returns-then-is_speed_and_level : goal.returns-then-is_speed_and_level
returns-then-is_speed_and_level c =
    c.is_path.ensures
    ∙ (path-words c.args.field.now
    ∙ field-path c.args.field.now _ _ (sym c.new-words.ensures ∙ c.in-Some.ensures.steps) (sym c.is_speed_and_level.ensures ∙ c.if-is_speed_and_level.true))

pub returns-else-is_speed_and_level : goal.returns-else-is_speed_and_level
returns-else-is_speed_and_level c =
    c.if-is_speed_and_level.false
    ∙ sym (field-routed c.args.field.now _ _ (sym c.new-words.ensures ∙ c.in-Some.ensures.steps) ∙ rw (sym c.is_speed_and_level.ensures ∙ c.if-is_speed_and_level.false) refl)
