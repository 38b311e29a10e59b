-- Each message has a field 3.
use Rattle.std.proofs.Common.{◌≡◌, ℕ, Bool, true, false, cond, List, refl}
use Rattle.std.specs.Prelude.{Option, Some, None, Result, Ok, Err, IsSome}
use Rattle.std.specs.Option.{ok_or}
use Rattle.std.specs.Result.{IsErr}
use Rattle.fpl_text.specs.declared.fault.TextFault.{TextFault}
use Rattle.fpl_text.specs.declared.fields.Title.{Title}
use Rattle.fpl_text.specs.declared.fields.Title.TheVariants as title
use Rattle.fpl_text.specs.declared.heading.Heading.{Heading}
use Rattle.fpl_text.specs.Headings.{heading_of}
use Rattle.fpl_text.specs.Fields.{fields_or_fault, first_field, title_of}
use Rattle.fpl_text.specs.Squeezing.{squeezed_or_fault}
use Rattle.fpl_text.specs.Words.{words_of}
use Rattle.fpl_message.specs.declared.edition.Edition.{Edition}
use Rattle.fpl_message.specs.declared.refusal.Refusal.{Refusal}
use Rattle.fpl_message.specs.declared.refusal.Refusal.TheVariants as refusal
use Rattle.fpl_message.specs.Filings.{FilingView}
use Rattle.fpl_message.specs.Messages.{field, Message, Order}
use Rattle.fpl_message.specs.FlightPlans.{fpl_of, flight_of}
use Rattle.fpl_message.specs.ShortMessages.{opening_of}
use Rattle.fpl_message.specs.Modifications.{chg_of}
use Rattle.fpl_message.specs.Orders.{order_of}
use Rattle.fpl_message.specs.Refusals.{◌>>=◌, by_text}
use Rattle.fpl_message.specs.Reads.{msg, ord, begins_message, titled_message, message_of, reading_of_squeezed, or_bad, reading_of, heading_of_fields, heading_of_bytes}

-- a message without a right field 3 is refused
titled-none : (title : Option Title) (fields : List (List ℕ)) → heading_of (field fields 0) ≡ None → IsErr (titled_message title fields)
unfolding fpl_of flight_of opening_of chg_of
titled-none (Some title.Fpl) fields h = rw h refl
titled-none (Some title.Dla) fields h = rw h refl
titled-none (Some title.Cnl) fields h = rw h refl
titled-none (Some title.Dep) fields h = rw h refl
titled-none (Some title.Chg) fields h = rw h refl
titled-none None fields h = refl

-- what is said by a message that was refused is no message
refused : (found : Result Message Refusal) (m : Message) → IsErr found → or_bad (found >>= (λ said. Ok (msg said))) ≡ msg m → ⊥
refused (Ok said) m err is = absurd (cc)
refused (Err refusal) m err is = absurd (cc)

of-fields : (fields : List (List ℕ)) (heading : Option Heading) (m : Message) → heading_of (field fields 0) ≡ heading
    → or_bad (message_of fields) ≡ msg m → IsSome heading
of-fields fields (Some heading) m same is = refl
of-fields fields None m same is =
    absurd (refused (titled_message (title_of (first_field fields)) fields) m (titled-none (title_of (first_field fields)) fields same) is)

no-order : (order : Option Order) (m : Message) → or_bad (ok_or order refusal.BadOrder >>= (λ o. Ok (ord o))) ≡ msg m → ⊥
no-order None m is = absurd (cc)
no-order (Some order) m is = absurd (cc)

of-found : (found : Result (List (List ℕ)) TextFault) (m : Message) → or_bad (by_text found >>= message_of) ≡ msg m
    → IsSome (heading_of_fields (by_text found))
of-found (Ok fields) m is = of-fields fields (heading_of (field fields 0)) m refl is
of-found (Err fault) m is = absurd (cc)

of-text : (begins : Bool) (found : Result (List (List ℕ)) TextFault) (order : Option Order) (m : Message)
    → or_bad (cond begins (by_text found >>= message_of) (ok_or order refusal.BadOrder >>= (λ o. Ok (ord o)))) ≡ msg m
    → IsSome (heading_of_fields (by_text found))
of-text true found order m is = of-found found m is
of-text false found order m is = absurd (no-order order m is)

of-squeezed : (edition : Edition) (squeezed : Result (List ℕ) TextFault) (m : Message)
    → or_bad (by_text squeezed >>= reading_of_squeezed edition) ≡ msg m
    → IsSome (heading_of_fields (by_text squeezed >>= (λ text. by_text (fields_or_fault text))))
of-squeezed edition (Ok text) m is =
    of-text (begins_message text) (fields_or_fault text) (order_of edition (words_of text)) m is
of-squeezed edition (Err fault) m is = absurd (cc)

pub message-heading : (filing : FilingView) (m : Message) → reading_of filing ≡ msg m → IsSome (heading_of_bytes filing.bytes)
unfolding reading_of
message-heading filing m is = of-squeezed filing.edition (squeezed_or_fault filing.bytes) m is
