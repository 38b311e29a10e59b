-- The traffic after a reading: each regulation is allocated by the rules, by itself, and then slots
-- are issued to plans, by number (EUROCONTROL ATFCM Users Manual, slot allocation).
use Rattle.std.specs.Prelude.{◌≡◌, List, [], ◌∷◌, ◌++◌, map, Option, None, MatchResult}
use Rattle.fpl_message.specs.Reads.{ReadingView, ord}
use Rattle.fpl_message.specs.Messages.{open_reg, set_time}
use Rattle.flow_plans.specs.Settings.{IsDeskTime}
use Rattle.flow_plans.specs.Plans.{PlanView}
use Rattle.flow_regulations.specs.Settling.{settled}
use Rattle.flow_regulations.specs.Notices.{notices_from, told_from}
use Rattle.flow_regulations.specs.declared.notice.Told.{Told}
use Rattle.flow_traffic.specs.declared.verdict.Verdict.{Verdict}
use Rattle.flow_traffic.specs.declared.verdict.Verdict.TheVariants.{Refused}
use Rattle.flow_traffic.specs.Traffic.{Traffic}
use Rattle.flow_traffic.specs.Asked.{Asked, asked}

-- the CTOT last issued to each plan, to a new one none
abbrev pub told_to : List PlanView → List (Option Told) → List (Option Told)
told_to [] told = []
told_to (p ∷ ps) [] = None ∷ told_to ps []
told_to (p ∷ ps) (t ∷ ts) = t ∷ told_to ps ts

-- the traffic after an accepted reading
unfoldable pub settle : Traffic → Asked → Traffic
settle t a =
    let regulations = map (settled t.taxi a.now a.plans) a.regulations in
    let told = told_to a.plans t.told in
    record t {
      now = a.now;
      plans = a.plans;
      regulations = regulations;
      told = told_from 1 t.taxi regulations a.plans told;
      notices = t.notices ++ notices_from 1 t.taxi regulations a.plans told;
    }

-- the traffic after a reading, and the verdict; a refused one changes nothing
abbrev pub Answers : ReadingView → Traffic → Traffic → Verdict → Type 0
Answers reading old new verdict =
    MatchResult (asked old reading)
    (λ a. (new ≡ settle old a) × (verdict ≡ a.verdict))
    (λ refusal. (new ≡ old) × (verdict ≡ Refused refusal))

-- the times of an order are in the years 2000 to 2098
abbrev pub HasDeskMoments : ReadingView → Type 0
HasDeskMoments (ord (open_reg m)) = IsDeskTime m.from × IsDeskTime m.to
HasDeskMoments (ord (set_time at)) = IsDeskTime at
HasDeskMoments _ = Unit {0}
