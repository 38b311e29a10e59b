-- The limits of a regulation: its period of 1 to 1,440 minutes, whose sub-periods begin one after
-- the other within it, and its hourly rates of at most 240, the last one at least 1. The desk's own
-- rule.
use Rattle.std.specs.Prelude.{ℕ, ◌-◌, Bool, ◌&&◌, nat_lt, nat_le, if◌then◌else◌, List, [], ◌∷◌, Option, Some, None}
use Rattle.fpl_text.specs.declared.part.Part.{Part}
use Rattle.flow_slots.specs.declared.shape.Limit.{Limit}
use Rattle.flow_slots.specs.declared.shape.Limit.TheVariants as limit
use Rattle.flow_slots.specs.declared.shape.TheConstants.{LONGEST_PERIOD, MOST_AN_HOUR}
use Rattle.flow_slots.specs.Period.{Period}

-- each sub-period begins after the one before it, and the last one before the end
abbrev pub rises : ℕ → ℕ → List Part → Bool
rises end start [] = nat_lt start end
rises end start (p ∷ ps) = nat_lt start p.from && rises end p.from ps

-- at most 240 flights an hour, and at least 1 in the last sub-period
abbrev pub rates_fit : ℕ → List Part → Bool
rates_fit rate [] = nat_lt 0 rate && nat_le rate MOST_AN_HOUR
rates_fit rate (p ∷ ps) = nat_le rate MOST_AN_HOUR && rates_fit p.rate ps

abbrev pub is_period : ℕ → ℕ → List Part → Bool
is_period start end parts = nat_le (end - start) LONGEST_PERIOD && rises end start parts

-- the limit that is broken: that of the period comes before that of the rates
abbrev pub broken_limit : Period → Option Limit
broken_limit p =
    if is_period p.start p.end p.parts then (if rates_fit p.rate p.parts then None else Some limit.Rate)
    else Some limit.Period
