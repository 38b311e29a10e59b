-- The edition of the rules has no effect but on OPEN.
use Rattle.std.proofs.Common.{◌≡◌, ℕ, Bool, true, false, List, [], ◌∷◌, codes, refl, ap}
use Rattle.std.specs.Prelude.{not, if◌then◌else◌, Option, Some, None, slice_index_or, Ok, Err}
use Rattle.std.specs.Option.{ok_or}
use Rattle.std.specs.List.{list_all, position_from}
use Rattle.fpl_text.specs.declared.fault.TextFault.TheVariants.{Empty}
use Rattle.fpl_text.specs.Bytes.{is_blank, is_accepted}
use Rattle.fpl_text.specs.Fields.{fields_or_fault}
use Rattle.fpl_text.specs.Squeezing.{squeezed, squeezed_unless, squeezed_or_fault}
use Rattle.fpl_text.specs.Words.{words_of}
use Rattle.fpl_items.specs.Kinds.{is_text}
use Rattle.fpl_message.specs.declared.edition.Edition.TheVariants.{First, Second}
use Rattle.fpl_message.specs.declared.refusal.Refusal.TheVariants as refusal
use Rattle.fpl_message.specs.Refusals.{◌>>=◌, by_text}
use Rattle.fpl_message.specs.Orders.{order_of}
use Rattle.fpl_message.specs.Reads.{begins_message, message_of, reading_of_squeezed, or_bad, reading_of, is_open, ord}

-- orders whose first word is not OPEN
order_of-same : (words : List (List ℕ)) → is_text (codes "OPEN") (slice_index_or words 0 []) ≡ false → order_of First words ≡ order_of Second words
order_of-same [] h = refl
order_of-same (verb ∷ words) h = rw h refl

-- squeezed texts whose first word is not OPEN
squeezed-same : (text : List ℕ) → is_text (codes "OPEN") (slice_index_or (words_of text) 0 []) ≡ false
    → reading_of_squeezed First text ≡ reading_of_squeezed Second text
squeezed-same text h =
    ap
    (λ order. if begins_message text then by_text (fields_or_fault text) >>= message_of else (ok_or order refusal.BadOrder >>= (λ o. Ok (ord o))))
    (order_of-same (words_of text) h)

pub reading_of-same : (bytes : List ℕ) → is_open bytes ≡ false
    → reading_of (record { edition = First; bytes = bytes }) ≡ reading_of (record { edition = Second; bytes = bytes })
unfolding reading_of squeezed_or_fault
reading_of-same bytes h = agrees (list_all is_blank bytes) (position_from (λ b. not (is_accepted b)) 0 bytes)
  where
    agrees : (blank : Bool) (bad : Option ℕ)
        → or_bad (by_text (if blank then Err Empty else squeezed_unless bad bytes) >>= reading_of_squeezed First)
        ≡ or_bad (by_text (if blank then Err Empty else squeezed_unless bad bytes) >>= reading_of_squeezed Second)
    agrees true bad = refl
    agrees false None = ap or_bad (squeezed-same (squeezed bytes) h)
    agrees false (Some place) = refl
