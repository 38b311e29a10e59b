-- What is written for an input. The answer lines are this desk's own; the notices are in the manner
-- of ADEXP keywords.
use Rattle.std.specs.Prelude.{ℕ, ◌+◌, ◌/◌, ◌%◌, List, [], ◌++◌, nat_lt, if◌then◌else◌, codes, decimal, Option, Some, None, slice_get, slice_range}
use Rattle.std.specs.List.{flat_map}
use Rattle.std.specs.Option.{option_map_or}
use Rattle.fpl_text.specs.Moments.{day_digits, hhmm_of}
use Rattle.fpl_message.specs.declared.refusal.Refusal.{Refusal}
use Rattle.fpl_message.specs.Numbers.{number_of, name_of, detail_of}
use Rattle.flow_traffic.specs.declared.verdict.Kind.{Kind}
use Rattle.flow_traffic.specs.declared.verdict.Kind.TheVariants as kind
use Rattle.flow_traffic.specs.declared.verdict.Verdict.{Verdict}
use Rattle.flow_traffic.specs.declared.verdict.Verdict.TheVariants.{Accepted, Departed, Refused}
use Rattle.flow_core.specs.declared.receipt.Receipt.{Receipt}
use Rattle.flow_regulations.specs.declared.notice.Window.{Window}
use Rattle.flow_regulations.specs.declared.notice.Window.TheVariants as window
use Rattle.flow_regulations.specs.declared.notice.Said.{Said}
use Rattle.flow_regulations.specs.declared.notice.Said.TheVariants.{Sam, Srm, Slc}
use Rattle.flow_regulations.specs.declared.notice.Told.{Told}
use Rattle.flow_regulations.specs.declared.notice.Notice.{Notice}
use Rattle.flow_core.specs.State.{State, EntryView}

abbrev pub kind_text : Kind → List ℕ
kind_text kind.Fpl = codes "FPL"
kind_text kind.Dla = codes "DLA"
kind_text kind.Chg = codes "CHG"
kind_text kind.Cnl = codes "CNL"
kind_text kind.Open = codes "OPEN"
kind_text kind.Shut = codes "SHUT"
kind_text kind.Time = codes "TIME"

abbrev pub window_text : Window → List ℕ
window_text window.None = codes "None"
window_text window.Early = codes "Early"
window_text window.InWindow = codes "InWindow"
window_text window.Late = codes "Late"

-- an order is about no plan
abbrev pub plan_text : ℕ → List ℕ
plan_text plan = if nat_lt 0 plan then codes " " ++ decimal plan else []

abbrev pub detail_text : Option ℕ → List ℕ
detail_text None = []
detail_text (Some n) = codes " " ++ decimal n

-- the number and the name of a refusal, and the offset or the field if it has one
abbrev pub refusal_text : Refusal → List ℕ
refusal_text r = codes " NO " ++ decimal (number_of r) ++ codes " " ++ name_of r ++ detail_text (detail_of r)

abbrev pub verdict_text : Verdict → List ℕ
verdict_text (Accepted kind plan) = codes " OK " ++ kind_text kind ++ plan_text plan
verdict_text (Departed window plan) = codes " OK DEP " ++ decimal plan ++ codes " " ++ window_text window
verdict_text (Refused r) = refusal_text r

-- the answer line of a receipt
abbrev pub answer_line : Receipt → List ℕ
answer_line r = decimal r.number ++ verdict_text r.verdict ++ codes "\n"

-- the fields that identify the flight of a notice
abbrev pub flight_text : Notice → List ℕ
flight_text n =
    codes " -ARCID " ++ n.ident ++ codes " -ADEP " ++ n.dep ++ codes " -ADES " ++ n.dest
    ++ codes " -EOBD " ++ day_digits (n.off_block / 1440) ++ codes " -EOBT " ++ hhmm_of (n.off_block % 1440)

-- the time of day of a calculated take-off, and the regulation that causes it
abbrev pub told_text : Told → List ℕ
told_text t = hhmm_of (t.ctot % 1440) ++ codes " -REGUL " ++ t.regulation

abbrev pub notice_text : Notice → Said → List ℕ
notice_text n (Sam t) = codes "-TITLE SAM" ++ flight_text n ++ codes " -CTOT " ++ told_text t ++ codes "\n"
notice_text n (Srm t) = codes "-TITLE SRM" ++ flight_text n ++ codes " -NEWCTOT " ++ told_text t ++ codes "\n"
notice_text n Slc = codes "-TITLE SLC" ++ flight_text n ++ codes "\n"

abbrev pub notice_line : Notice → List ℕ
notice_line n = notice_text n n.says

-- the answer line of an entry and the lines of its notices
abbrev pub answer_of : State → EntryView → List ℕ
answer_of s e = answer_line e.receipt ++ flat_map notice_line (slice_range s.traffic.notices e.receipt.first_notice (e.receipt.first_notice + e.receipt.notices))

-- the answer to the entry at an index, from 0
abbrev pub answer_text : State → ℕ → List ℕ
answer_text s index = option_map_or (answer_of s) (slice_get s.journal index) []

-- what is written for a frame of more than MAX_BYTES bytes
abbrev pub too_long_line : List ℕ
too_long_line = codes "- NO 90 TooLong\n"

-- and for a filing at a full journal
abbrev pub journal_full_line : List ℕ
journal_full_line = codes "- NO 91 JournalFull\n"
