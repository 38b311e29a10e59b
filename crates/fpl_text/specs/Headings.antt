-- Field 3: the title of a message, and a number and a reference that are kept (ICAO Doc 4444,
-- appendix 3, field type 3).
use Rattle.std.specs.Prelude.{ℕ, ◌+◌, Bool, ◌==◌, ◌&&◌, nat_le, if◌then◌else◌, List, length, take, drop, slice_index, Option, Some, None}
use Rattle.std.specs.Option.{option_map, option_and_then}
use Rattle.std.specs.List.{list_all, prefix_len}
use Rattle.fpl_text.specs.declared.fields.Title.{Title}
use Rattle.fpl_text.specs.declared.heading.Heading.{Heading}
use Rattle.fpl_text.specs.Bytes.{is_letter, is_digit}
use Rattle.fpl_text.specs.Fields.{title_of}

-- the letters of the sending unit
abbrev pub sender_len : List ℕ → ℕ
sender_len text = prefix_len is_letter text

-- the letters of the receiving unit, which follow a stroke
abbrev pub receiver_len : List ℕ → ℕ
receiver_len text = prefix_len is_letter (drop (sender_len text + 1) text)

-- the length of the message number with which a text begins
abbrev pub number_len : List ℕ → ℕ
number_len text = sender_len text + receiver_len text + 4

-- a message number: 1 to 4 letters, a stroke, 1 to 4 letters, and 3 digits
unfoldable pub is_number : List ℕ → Bool
is_number text =
    nat_le 1 (sender_len text) && nat_le (sender_len text) 4 && nat_le 1 (receiver_len text) && nat_le (receiver_len text) 4
    && (length text == number_len text) && (slice_index text (sender_len text) == 47)
    && list_all is_digit (drop (sender_len text + 1 + receiver_len text) text)

-- no message number, or one
unfoldable pub number_in : List ℕ → Option (Option (List ℕ))
number_in text =
    if length text == 0 then Some None else (if is_number text then Some (Some text) else None)

-- after a title nothing, a number, or a number and that of another message, to which it refers
unfoldable pub heading_with : Title → List ℕ → Option Heading
heading_with title text =
    option_and_then
    (λ number. option_map (λ reference. record { title = title; number = number; reference = reference }) (number_in (drop (number_len text) text)))
    (number_in (take (number_len text) text))

-- a title of three letters, and then the numbers
unfoldable pub heading_of : List ℕ → Option Heading
heading_of text = option_and_then (λ title. heading_with title (drop 3 text)) (title_of text)
