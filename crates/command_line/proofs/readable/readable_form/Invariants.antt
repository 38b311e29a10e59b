use Rattle.std.proofs.Common.{ℕ, List, ◌++◌, length, string_bytes}
use Rattle.command_line.specs.Words.{IsReadable}
use Rattle.command_line.proofs.readable.readable_form.Given as goal

-- what was made, with a readable form of the bytes that are left, is one of all the bytes
abbrev pub invariant-pieces : goal.invariant-pieces
invariant-pieces l =
    (more : List ℕ) → IsReadable l.rest more → IsReadable l.fn.bytes (string_bytes l.text ++ more)

abbrev pub decreases-pieces : goal.decreases-pieces
decreases-pieces l = length l.rest
