-- The times that orders name lie in the years 2000 to 2098, and a regulation has few sub-periods.
use Rattle.std.proofs.Common.{◌≡◌, ℕ, ◌*◌, ◌<◌, ◌≤◌, refl, Bool, true, false, cond, List, [], ◌∷◌, length, codes, ◌∙◌, ap, subst, arith}
use Rattle.std.proofs.lemmas.Bool.{leb-true}
use Rattle.std.specs.Prelude.{Option, Some, None, Result, Ok, Err, nat_le, ◌==◌}
use Rattle.std.specs.Option.{option_map, ok_or}
use Rattle.std.specs.List.{All}
use Rattle.std.proofs.lemmas.List.Elements.{All-cons, All-nil}
use Rattle.fpl_text.specs.declared.part.Part.{Part}
use Rattle.fpl_text.specs.declared.part.TheConstants.{MOST_PARTS}
use Rattle.fpl_text.specs.Fields.{fields_or_fault}
use Rattle.fpl_text.specs.Moments.{moment_of}
use Rattle.fpl_text.specs.Squeezing.{squeezed_or_fault}
use Rattle.fpl_text.specs.Words.{words_of}
use Rattle.fpl_text.proofs.MomentYears.{moment-within}
use Rattle.fpl_items.specs.Kinds.{is_text}
use Rattle.fpl_message.specs.declared.edition.Edition.{Edition}
use Rattle.fpl_message.specs.declared.edition.Edition.TheVariants.{First, Second}
use Rattle.fpl_message.specs.declared.order.OpenReg.{OpenReg}
use Rattle.fpl_message.specs.declared.refusal.Refusal.{Refusal}
use Rattle.fpl_message.specs.declared.refusal.Refusal.TheVariants as refusal
use Rattle.fpl_message.specs.Filings.{FilingView}
use Rattle.fpl_message.specs.Messages.{Order, open_reg, shut_reg, set_time, Message}
use Rattle.fpl_message.specs.Refusals.{◌>>=◌, by_text}
use Rattle.fpl_message.specs.Orders.{◌>>?◌, order_of, time_of, shut_of, open_of, regulation_id_of, spot_of, rate_of, more_of, parts_of, part_of}
use Rattle.fpl_message.specs.Reads.{msg, ord, begins_message, titled_message, message_of, reading_of_squeezed, reading_of, or_bad}

-- a time of those years
abbrev pub IsOfYears : ℕ → Type 0
IsOfYears minute = (15_778_080 ≤ minute) × (minute < 67_848_480)

-- what a chain began with
chained : {X Y : Type 0} (found : Option X) (next : X → Option Y) (y : Y) → (found >>? next) ≡ Some y → (x : X) × (found ≡ Some x) × (next x ≡ Some y)
chained (Some x) next y is = (x, refl, is)
chained None next y is = absurd cc

mapped : {X Y : Type 0} (found : Option X) (f : X → Y) (y : Y) → option_map f found ≡ Some y → (x : X) × (found ≡ Some x) × (f x ≡ y)
mapped (Some x) f y is = (x, refl, cc)
mapped None f y is = absurd cc

-- the text of which an order is read
order-read : (filing : FilingView) (order : Order) → reading_of filing ≡ ord order → (text : List ℕ) × (order_of filing.edition (words_of text) ≡ Some order)
unfolding reading_of
order-read filing order is = squeezed-read (by_text (squeezed_or_fault filing.bytes)) is
  where
    titled : (found : Result Message Refusal) → or_bad (found >>= (λ m. Ok (msg m))) ≡ ord order → ⊥
    titled (Ok m) h = cc
    titled (Err refusal) h = cc

    fields : (found : Result (List (List ℕ)) Refusal) → or_bad (found >>= message_of) ≡ ord order → ⊥
    fields (Ok texts) h = titled (titled_message _ texts) h
    fields (Err refusal) h = cc

    said : (found : Option Order) → or_bad (ok_or found refusal.BadOrder >>= (λ o. Ok (ord o))) ≡ ord order → found ≡ Some order
    said (Some o) h = cc
    said None h = absurd cc

    either : (b : Bool) (text : List ℕ) → or_bad (cond b (by_text (fields_or_fault text) >>= message_of) (ok_or (order_of filing.edition (words_of text)) refusal.BadOrder >>= (λ o. Ok (ord o)))) ≡ ord order → order_of filing.edition (words_of text) ≡ Some order
    either true text h = absurd (fields (by_text (fields_or_fault text)) h)
    either false text h = said (order_of filing.edition (words_of text)) h

    squeezed-read : (found : Result (List ℕ) Refusal) → or_bad (found >>= reading_of_squeezed filing.edition) ≡ ord order → (text : List ℕ) × (order_of filing.edition (words_of text) ≡ Some order)
    squeezed-read (Ok text) h = (text, either (begins_message text) text h)
    squeezed-read (Err refusal) h = absurd cc

-- a further sub-period
part-years : (moment rate : List ℕ) (part : Part) → part_of moment rate ≡ Some part → IsOfYears part.from
unfolding part_of
part-years moment rate part is =
    let start = chained (moment_of moment) (λ from. rate_of rate >>? (λ flights. Some (record { from = from; rate = flights }))) part is in
    let flights = chained (rate_of rate) (λ flights. Some (record { from = start.0; rate = flights })) part start.2 in
    let same : start.0 ≡ part.from = (let e = flights.2 in cc) in
    let within = moment-within moment start.0 start.1 in
    subst IsOfYears same within

parts-years : (words : List (List ℕ)) (parts : List Part) → parts_of words ≡ Some parts → All (λ (part : Part). IsOfYears part.from) parts
parts-years [] parts is =
    let none : parts ≡ [] = cc in
    rw none (All-nil (λ (part : Part). IsOfYears part.from))
parts-years (moment ∷ []) parts is = absurd cc
parts-years (moment ∷ rate ∷ words) parts is =
    let first = chained (part_of moment rate) (λ part. option_map (λ rest. part ∷ rest) (parts_of words)) parts is in
    let rest = mapped (parts_of words) (λ rest. first.0 ∷ rest) parts first.2 in
    rw (← rest.2) (All-cons (λ (part : Part). IsOfYears part.from) first.0 rest.0 (part-years moment rate first.0 first.1) (parts-years words rest.0 rest.1))

more-years : (edition : Edition) (words : List (List ℕ)) (parts : List Part) → more_of edition words ≡ Some parts → All (λ (part : Part). IsOfYears part.from) parts
unfolding more_of
more-years First words parts is = none (length words == 0) is
  where
    none : (b : Bool) → cond {A = Option (List Part)} b (Some []) None ≡ Some parts → All (λ (part : Part). IsOfYears part.from) parts
    none true h =
        let empty : parts ≡ [] = cc in
        rw empty (All-nil (λ (part : Part). IsOfYears part.from))
    none false h = absurd cc
more-years Second words parts is = some (nat_le (length words) (2 * MOST_PARTS)) is
  where
    some : (b : Bool) → cond b (parts_of words) None ≡ Some parts → All (λ (part : Part). IsOfYears part.from) parts
    some true h = parts-years words parts h
    some false h = absurd cc

-- they are pairs of words
parts-count : (words : List (List ℕ)) (parts : List Part) → parts_of words ≡ Some parts → 2 * length parts ≤ length words
parts-count [] parts is =
    let none : [] ≡ parts = cc in
    rw (← none) (omega arith)
parts-count (moment ∷ []) parts is = absurd cc
parts-count (moment ∷ rate ∷ words) parts is =
    let first = chained (part_of moment rate) (λ part. option_map (λ rest. part ∷ rest) (parts_of words)) parts is in
    let rest = mapped (parts_of words) (λ rest. first.0 ∷ rest) parts first.2 in
    let fewer : 2 * length rest.0 ≤ length words = parts-count words rest.0 rest.1 in
    rw (← rest.2) (omega (arith, fewer))

more-few : (edition : Edition) (words : List (List ℕ)) (parts : List Part) → more_of edition words ≡ Some parts → length parts ≤ MOST_PARTS
unfolding more_of
more-few First words parts is = none (length words == 0) is
  where
    none : (b : Bool) → cond {A = Option (List Part)} b (Some []) None ≡ Some parts → length parts ≤ MOST_PARTS
    none true h =
        let empty : [] ≡ parts = cc in
        rw (← empty) (omega arith)
    none false h = absurd cc
more-few Second words parts is = some (nat_le (length words) (2 * MOST_PARTS)) refl is
  where
    some : (b : Bool) → nat_le (length words) (2 * MOST_PARTS) ≡ b → cond b (parts_of words) None ≡ Some parts → length parts ≤ MOST_PARTS
    some true few h = omega (arith, leb-true (length words) (2 * MOST_PARTS) few, parts-count words parts h)
    some false few h = absurd cc

-- the times of a regulation
pub record OpensWithinYears (order : OpenReg) : Type 0 where
  pub from : IsOfYears order.from
  pub to : IsOfYears order.to
  pub more : All (λ (part : Part). IsOfYears part.from) order.more
  pub few : length order.more ≤ MOST_PARTS

open-years : (edition : Edition) (words : List (List ℕ)) (order : OpenReg) → open_of edition words ≡ Some order → OpensWithinYears order
open-years edition (id ∷ kind ∷ place ∷ from ∷ to ∷ rate ∷ words) order is =
    let name = chained (regulation_id_of id) _ order is in
    let spot = chained (spot_of kind place) _ order name.2 in
    let start = chained (moment_of from) _ order spot.2 in
    let end = chained (moment_of to) _ order start.2 in
    let flights = chained (rate_of rate) _ order end.2 in
    let more = chained (more_of edition words) _ order flights.2 in
    let same : record { id = name.0; place = spot.0; from = start.0; to = end.0; rate = flights.0; more = more.0 } ≡ order = (let e = more.2 in cc) in
    rw (← same) (record {
      from = moment-within from start.0 start.1;
      to = moment-within to end.0 end.1;
      more = more-years edition words more.0 more.1;
      few = more-few edition words more.0 more.1;
    })
open-years edition _ order is = absurd cc

order-time : (edition : Edition) (words : List (List ℕ)) (at : ℕ) → order_of edition words ≡ Some (set_time at) → IsOfYears at
order-time edition [] at is = absurd cc
order-time edition (verb ∷ words) at is = by_verb (is_text (codes "OPEN") verb) (is_text (codes "SHUT") verb) (is_text (codes "TIME") verb) is
  where
    moment : (words : List (List ℕ)) → time_of words ≡ Some at → IsOfYears at
    moment (word ∷ []) h = moment-within word at h
    moment _ h = absurd cc

    by_verb : (opens shuts times : Bool) → cond opens (option_map open_reg (open_of edition words)) (cond shuts (option_map shut_reg (shut_of words)) (cond times (option_map set_time (time_of words)) None)) ≡ Some (set_time at) → IsOfYears at
    by_verb true shuts times h =
        let found = mapped (open_of edition words) open_reg (set_time at) h in
        absurd (let e = found.2 in cc)
    by_verb false true times h =
        let found = mapped (shut_of words) shut_reg (set_time at) h in
        absurd (let e = found.2 in cc)
    by_verb false false true h =
        let found = mapped (time_of words) set_time (set_time at) h in
        let same : found.0 ≡ at = (let e = found.2 in cc) in
        moment words (found.1 ∙ ap Some same)
    by_verb false false false h = absurd cc

order-open : (edition : Edition) (words : List (List ℕ)) (order : OpenReg) → order_of edition words ≡ Some (open_reg order) → OpensWithinYears order
order-open edition [] order is = absurd cc
order-open edition (verb ∷ words) order is = by_verb (is_text (codes "OPEN") verb) (is_text (codes "SHUT") verb) (is_text (codes "TIME") verb) is
  where
    by_verb : (opens shuts times : Bool) → cond opens (option_map open_reg (open_of edition words)) (cond shuts (option_map shut_reg (shut_of words)) (cond times (option_map set_time (time_of words)) None)) ≡ Some (open_reg order) → OpensWithinYears order
    by_verb true shuts times h =
        let found = mapped (open_of edition words) open_reg (open_reg order) h in
        let same : found.0 ≡ order = (let e = found.2 in cc) in
        open-years edition words order (found.1 ∙ ap Some same)
    by_verb false true times h =
        let found = mapped (shut_of words) shut_reg (open_reg order) h in
        absurd (let e = found.2 in cc)
    by_verb false false true h =
        let found = mapped (time_of words) set_time (open_reg order) h in
        absurd (let e = found.2 in cc)
    by_verb false false false h = absurd cc

-- TIME names a time of those years
pub time-within : (filing : FilingView) (at : ℕ) → reading_of filing ≡ ord (set_time at) → (15_778_080 ≤ at) × (at < 67_848_480)
time-within filing at is =
    let read = order-read filing (set_time at) is in
    order-time filing.edition (words_of read.0) at read.1

-- the times of OPEN are of those years
pub open-within : (filing : FilingView) (order : OpenReg) → reading_of filing ≡ ord (open_reg order) → OpensWithinYears order
open-within filing order is =
    let read = order-read filing (open_reg order) is in
    order-open filing.edition (words_of read.0) order read.1
