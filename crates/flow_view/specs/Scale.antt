-- The scale of a panel of a chart, and where times and counts of flights are drawn in it: lengths
-- in tenths of a pixel.
use Rattle.std.specs.Prelude.{ℕ, ◌+◌, ◌-◌, ◌*◌, ◌/◌, min, nat_le, List, Option, None, cond}
use Rattle.std.specs.Int.{div_ceil}
use Rattle.std.specs.Option.{unwrap_or}
use Rattle.std.specs.List.{find}
use Rattle.fpl_text.specs.Moments.{moment_within}
use Rattle.flow_view.specs.declared.rounds.TheConstants.{MOST_LINES, ROUND_COUNTS, LABEL_WIDTH, PANEL_WIDTH, ROUND_TIMES}

-- the share of a length that a part is of a whole, rounded down; all of it if the part is greater
abbrev pub share : ℕ → ℕ → ℕ → ℕ
share length part whole = length * min part whole / whole

-- the first of these numbers that `times` times reaches `wanted`
abbrev pub first_reaching : ℕ → ℕ → List ℕ → Option ℕ
first_reaching times wanted numbers = find (λ n. nat_le wanted (times * n)) numbers

-- the number of flights between two lines, for this greatest count
unfoldable pub count_between : ℕ → ℕ
count_between greatest = unwrap_or (first_reaching MOST_LINES greatest ROUND_COUNTS) 10_000

-- the number of minutes between two labels of a period of `minutes` minutes
unfoldable pub minutes_between : ℕ → ℕ
minutes_between minutes = unwrap_or (first_reaching PANEL_WIDTH (LABEL_WIDTH * minutes) ROUND_TIMES) 240

-- in a period of `minutes` minutes from `start`: the left and right edges of the bar of a step
abbrev pub bar_of : ℕ → ℕ → ℕ → ℕ → ℕ × ℕ
bar_of start minutes from to =
    let left = share PANEL_WIDTH (from - start) minutes in
    let right = share PANEL_WIDTH (to - start) minutes in
    (left + (right - left) / 12, right - (right - left) / 12)

-- and the time of a label, by its index from 0
abbrev pub label_of : ℕ → ℕ → ℕ → Option ℕ
label_of start minutes place =
    let between = minutes_between minutes in
    let moment = (div_ceil start between + place) * between in
    cond (nat_le moment (start + minutes)) (moment_within moment) None
