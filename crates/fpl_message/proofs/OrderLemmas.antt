-- The sub-periods of a regulation, pair by pair.
use Rattle.std.proofs.Common.{List, ◌++◌, Option}
use Rattle.std.specs.Option.{option_map}
use Rattle.fpl_text.specs.declared.part.Part.{Part}

-- sub-periods read before others
abbrev pub with_front : List Part → Option (List Part) → Option (List Part)
with_front front found = option_map (λ parts. front ++ parts) found
