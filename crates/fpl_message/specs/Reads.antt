-- The reading of a filing: what its bytes say, or the first refusal of them.
use Rattle.std.specs.Prelude.{ℕ, Bool, ◌==◌, if◌then◌else◌, List, [], slice_index_or, codes, Option, Some, None, Result, Ok, Err}
use Rattle.fpl_text.specs.Squeezing.{squeezed, squeezed_or_fault}
use Rattle.fpl_text.specs.Fields.{fields_or_fault, first_field, title_of}
use Rattle.fpl_text.specs.Headings.{heading_of}
use Rattle.fpl_text.specs.declared.heading.Heading.{Heading}
use Rattle.fpl_text.specs.Words.{words_of}
use Rattle.fpl_items.specs.Kinds.{is_text}
use Rattle.fpl_text.specs.declared.fields.Title.{Title}
use Rattle.fpl_text.specs.declared.fields.Title.TheVariants as title
use Rattle.fpl_message.specs.declared.refusal.Refusal.{Refusal}
use Rattle.fpl_message.specs.declared.refusal.Refusal.TheVariants as refusal
use Rattle.fpl_message.specs.declared.edition.Edition.{Edition}
use Rattle.fpl_message.specs.Filings.{FilingView}
use Rattle.fpl_message.specs.Refusals.{◌>>=◌, by_text}
use Rattle.fpl_message.specs.Messages.{Message, fpl, dla, chg, cnl, dep, Order}
use Rattle.fpl_message.specs.FlightPlans.{fpl_of}
use Rattle.fpl_message.specs.ShortMessages.{dla_of, cnl_of, dep_of}
use Rattle.fpl_message.specs.Modifications.{chg_of}
use Rattle.fpl_message.specs.Orders.{order_or_refusal}
pub use Rattle.fpl_message.specs.Messages.{field}

-- what a filing says
pub data ReadingView : Type 0 where
  msg : Message → ReadingView
  ord : Order → ReadingView
  bad : Refusal → ReadingView

-- a message begins with an opening bracket
unfoldable pub begins_message : List ℕ → Bool
begins_message text = slice_index_or text 0 0 == 40

-- what the fields of a message say
abbrev pub titled_message : Option Title → List (List ℕ) → Result Message Refusal
titled_message (Some title.Fpl) fields = fpl_of fields >>= (λ m. Ok (fpl m))
titled_message (Some title.Dla) fields = dla_of fields >>= (λ m. Ok (dla m))
titled_message (Some title.Cnl) fields = cnl_of fields >>= (λ m. Ok (cnl m))
titled_message (Some title.Dep) fields = dep_of fields >>= (λ m. Ok (dep m))
titled_message (Some title.Chg) fields = chg_of fields >>= (λ m. Ok (chg m))
titled_message None fields = Err refusal.UnknownTitle

abbrev pub message_of : List (List ℕ) → Result ReadingView Refusal
message_of fields = titled_message (title_of (first_field fields)) fields >>= (λ m. Ok (msg m))

-- what a squeezed text says as a message, or why it is none
abbrev pub message_or_refusal : List ℕ → Result ReadingView Refusal
message_or_refusal text = by_text (fields_or_fault text) >>= message_of

-- a squeezed text that begins with an opening bracket is a message, any other an order
abbrev pub reading_of_squeezed : Edition → List ℕ → Result ReadingView Refusal
reading_of_squeezed edition text =
    if begins_message text then message_or_refusal text
    else order_or_refusal edition text >>= (λ order. Ok (ord order))

-- what a filing says, or its first refusal
abbrev pub reading_or_refusal : FilingView → Result ReadingView Refusal
reading_or_refusal filing = by_text (squeezed_or_fault filing.bytes) >>= reading_of_squeezed filing.edition

abbrev pub or_bad : Result ReadingView Refusal → ReadingView
or_bad (Ok reading) = reading
or_bad (Err refusal) = bad refusal

-- the reading of a filing: what it says, or that it is refused
unfoldable pub reading_of : FilingView → ReadingView
reading_of filing = or_bad (reading_or_refusal filing)

-- field 3 of a text that has fields, if the first has that form, whether the text is refused or not
abbrev pub heading_of_fields : Result (List (List ℕ)) Refusal → Option Heading
heading_of_fields (Ok fields) = heading_of (field fields 0)
heading_of_fields (Err refusal) = None

abbrev pub heading_of_bytes : List ℕ → Option Heading
heading_of_bytes bytes =
    heading_of_fields (by_text (squeezed_or_fault bytes) >>= (λ text. by_text (fields_or_fault text)))

-- the first word of a filing is OPEN
abbrev pub is_open : List ℕ → Bool
is_open bytes = is_text (codes "OPEN") (slice_index_or (words_of (squeezed bytes)) 0 [])
