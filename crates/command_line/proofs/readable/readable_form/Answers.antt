use Rattle.std.proofs.Common.{rules, ◌≡◌, ◌++◌, take, slice_index, string_bytes, append_assoc}
use Rattle.std.proofs.lemmas.List.{take_rest}
use Rattle.command_line.specs.Words.{IsReadable, escaped}
use Rattle.command_line.proofs.readable.readable_form.Goals as goal

pub returns-in-Ok : goal.returns-in-Ok
returns-in-Ok c =
    let cases = c.in-Ok.ensures.cases in
    rw c.in_ok-push_str-in-Ok.ensures.bytes (c.pieces.invariant _ (IsReadable.whole _ _ cases.1 cases.0))

pub pieces-preserved : goal.pieces-preserved
pieces-preserved c =
    let rest = c.pieces.rest.now in
    let valid = c.valid_up_to-valid.result in
    let cases = rw (← c.valid_up_to-valid.ensures) at c.in-Err.ensures.cases in
    let text : string_bytes c.push_escaped.new.text
    ≡ (string_bytes c.pieces.text ++ take valid rest) ++ escaped (slice_index rest valid) = search rules in
    λ more later.
    rw (text, append_assoc, append_assoc)
    (c.pieces.invariant _ (IsReadable.cut rest _ valid more cases.0 cases.1 (rw take_rest at later) (search rules)))
