-- What ends a run of bytes.
use Rattle.std.specs.Prelude.{ℕ, Bool}
use Rattle.flow_input.specs.declared.input.Until.{Until}
use Rattle.flow_input.specs.declared.input.Until.TheVariants as until
use Rattle.flow_input.specs.Frames.{is_parenthesis, ends_order}

abbrev pub stops_at : Until → ℕ → Bool
stops_at until.Bracket b = is_parenthesis b
stops_at until.OrderEnd b = ends_order b
