-- Slot notices: the slot allocation message (SAM), its revision (SRM) and its cancellation (SLC),
-- and the window of a departure (ATFCM Users Manual).
use Rattle.std.specs.Prelude.{ℕ, ◌+◌, ◌-◌, ◌%◌, ◌==◌, nat_lt, if◌then◌else◌, List, [], ◌∷◌, ◌++◌, Option, Some, None}
use Rattle.flow_plans.specs.Plans.{PlanView, is_departed}
use Rattle.flow_regulations.specs.declared.notice.Told.{Told}
use Rattle.flow_regulations.specs.declared.notice.Said.{Said}
use Rattle.flow_regulations.specs.declared.notice.Said.TheVariants.{Sam, Srm, Slc}
use Rattle.flow_regulations.specs.declared.notice.Notice.{Notice}
use Rattle.flow_regulations.specs.declared.notice.Window.{Window}
use Rattle.flow_regulations.specs.declared.notice.Window.TheVariants as window
use Rattle.flow_regulations.specs.Regulations.{Regulation}
use Rattle.flow_regulations.specs.Advice.{advice}
use Rattle.flow_regulations.specs.declared.window.TheConstants.{MINUTES_EARLY, MINUTES_LATE}

-- what a notice says, by the CTOT last issued and the advice now
abbrev pub says : Option Told → Option Told → Option Said
says None None = None
says None (Some new) = Some (Sam new)
says (Some old) None = Some Slc
says (Some old) (Some new) = if old.ctot == new.ctot then None else Some (Srm new)

-- the CTOT last issued from then on: the same time leaves it unchanged
abbrev pub told_then : Option Told → Option Told → Option Told
told_then old None = None
told_then None (Some new) = Some new
told_then (Some old) (Some new) = if old.ctot == new.ctot then Some old else Some new

abbrev pub notice_of : PlanView → Option Said → List Notice
notice_of p None = []
notice_of p (Some said) =
    record { ident = p.key.ident; dep = p.key.dep; dest = p.key.dest; off_block = p.off_block; says = said } ∷ []

-- a departed plan is issued nothing more, and keeps the CTOT last issued
abbrev pub notices_to : PlanView → Option Told → Option Told → List Notice
notices_to p told new = if is_departed p.state then [] else notice_of p (says told new)

abbrev pub told_to_plan : PlanView → Option Told → Option Told → Option Told
told_to_plan p told new = if is_departed p.state then told else told_then told new

-- the notices to plans numbered from n, with these CTOTs last issued
abbrev pub notices_from : ℕ → ℕ → List Regulation → List PlanView → List (Option Told) → List Notice
notices_from n taxi regulations [] told = []
notices_from n taxi regulations (p ∷ ps) [] = []
notices_from n taxi regulations (p ∷ ps) (t ∷ ts) =
    notices_to p t (advice taxi n p regulations) ++ notices_from (n + 1) taxi regulations ps ts

-- and the CTOTs last issued from then on
abbrev pub told_from : ℕ → ℕ → List Regulation → List PlanView → List (Option Told) → List (Option Told)
told_from n taxi regulations [] told = []
told_from n taxi regulations (p ∷ ps) [] = []
told_from n taxi regulations (p ∷ ps) (t ∷ ts) =
    told_to_plan p t (advice taxi n p regulations) ∷ told_from (n + 1) taxi regulations ps ts

-- how a departure at this time of day compares with a CTOT: the difference in times of day, from
-- -720 to 719 minutes
abbrev pub window_at : ℕ → ℕ → Window
window_at ctot time =
    let d = (time + 1440 - ctot % 1440) % 1440 in
    if nat_lt d 720 then (if nat_lt MINUTES_LATE d then window.Late else window.InWindow)
    else (if nat_lt d (1440 - MINUTES_EARLY) then window.Early else window.InWindow)

unfoldable pub window_of : Option Told → ℕ → Window
window_of None time = window.None
window_of (Some t) time = window_at t.ctot time
