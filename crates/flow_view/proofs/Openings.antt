-- Openings, entry by entry.
use Rattle.std.proofs.Common.{◌≡◌, ◌+◌, ◌-◌, ◌∙◌, ◌++◌, ℕ, Bool, true, false, List, Option, Some, None, length, take, refl, ap, sym, slice_get, map}
use Rattle.std.specs.Option.{option_map, option_map_or, option_to_list}
use Rattle.flow_plans.specs.Settings.{SetupView}
use Rattle.flow_regulations.specs.Regulations.{Regulation}
use Rattle.flow_regulations.specs.Listing.{RegulationView, regulation_of}
use Rattle.flow_core.specs.History.{History, state_of}
use Rattle.flow_core.specs.State.{Input, EntryView}
use Rattle.flow_view.specs.Past.{past}
use Rattle.flow_view.specs.Openings.{OpeningView, is_opening, shut_in, shut_one, with_shut, opened_with, last_open, with_opened, after_entry}
use Rattle.flow_view.proofs.Histories.{same-of}
use Rattle.flow_view.proofs.Lists.{last-mapped}

abbrev of_parts : SetupView → List Input → History
of_parts s fs = record { setup = s; filed = fs; undoable = false }

same-shut : (b k : History) → b.setup ≡ k.setup → b.filed ≡ k.filed → (n : ℕ) (shut : Option (List ℕ)) (os : List OpeningView) → with_shut b n shut os ≡ with_shut k n shut os
same-shut b k setup filed n None os = refl
same-shut b k setup filed n (Some id) os = same-of (λ s fs. map (shut_one (of_parts s fs) n id) os) b k setup filed

same-opened : (b k : History) → b.setup ≡ k.setup → b.filed ≡ k.filed → (n : ℕ) (opens : Bool) (os : List OpeningView) → with_opened b n opens os ≡ with_opened k n opens os
same-opened b k setup filed n false os = refl
same-opened b k setup filed n true os = same-of (λ s fs. os ++ option_to_list (option_map (opened_with n) (last_open (of_parts s fs)))) b k setup filed

-- what is made by an entry
pub step-made : (h before after : History) (i : ℕ) (e : EntryView) (shut : Option (List ℕ)) (opens : Bool) (os mid made : List OpeningView)
    → slice_get (state_of h).journal i ≡ Some e
    → before.setup ≡ h.setup → before.filed ≡ take i h.filed → after.setup ≡ before.setup → after.filed ≡ take (i + 1) h.filed
    → shut ≡ shut_in e → opens ≡ is_opening e.receipt.verdict
    → mid ≡ with_shut before (i + 1) shut os → made ≡ with_opened after (i + 1) opens mid
    → made ≡ option_map_or (λ x. after_entry h i x os) (slice_get (state_of h).journal i) os
step-made h before after i e shut opens os mid made is setup filed kept more shuts opened first then =
    let begun : mid ≡ with_shut (past i h) (i + 1) (shut_in e) os
    = first ∙ (same-shut before (past i h) setup filed (i + 1) shut os ∙ ap (λ s. with_shut (past i h) (i + 1) s os) shuts) in
    then
    ∙ (same-opened after (past (i + 1) h) (kept ∙ setup) more (i + 1) opens mid
    ∙ (ap (λ b. with_opened (past (i + 1) h) (i + 1) b mid) opened
    ∙ (ap (λ (ms : List OpeningView). with_opened (past (i + 1) h) (i + 1) (is_opening e.receipt.verdict) ms) begun
    ∙ ap (λ (o : Option EntryView). option_map_or (λ x. after_entry h i x os) o os) (sym is))))

-- the last open regulation is added
pub last-opened : (after : History) (number : ℕ) (lists : List RegulationView) (o : Option RegulationView) (os : List OpeningView)
    → map regulation_of lists ≡ (state_of after).traffic.regulations → slice_get lists (length lists - 1) ≡ o
    → with_opened after number true os ≡ os ++ option_to_list (option_map (λ l. opened_with number (regulation_of l)) o)
last-opened after number lists o os are is =
    let last : last_open after ≡ option_map regulation_of o = last-mapped regulation_of lists (state_of after).traffic.regulations are ∙ ap (λ m. option_map regulation_of m) is in
    ap (λ (r : Option Regulation). os ++ option_to_list (option_map (opened_with number) r)) last ∙ by o
  where
    by : (m : Option RegulationView) → os ++ option_to_list (option_map (opened_with number) (option_map regulation_of m)) ≡ os ++ option_to_list (option_map (λ l. opened_with number (regulation_of l)) m)
    by None = refl
    by (Some l) = refl
