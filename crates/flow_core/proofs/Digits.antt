-- Digits that are written at their index, two at a time.
use Rattle.std.proofs.Common.{◌≡◌, ◌≤◌, ◌<◌, ◌^◌, ◌++◌, ◌/◌, ◌%◌, ℕ, List, ap, sym, ◌∙◌, append_assoc}
use Rattle.std.specs.Fmt.{decimal}
use Rattle.itoa.proofs.Decimal.{decimal_pair, pair}

pub digits-put : (old mid new : List ℕ) (n : ℕ) → 100 ≤ n → n < 2 ^ 64 → mid ≡ old ++ decimal (n / 100) → new ≡ mid ++ pair (n % 100) → new ≡ old ++ decimal n
digits-put old mid new n many fits first last =
    last ∙ ap (λ (m : List ℕ). m ++ pair (n % 100)) first ∙ append_assoc old (decimal (n / 100)) (pair (n % 100))
    ∙ ap (λ (m : List ℕ). old ++ m) (sym (decimal_pair n many fits))
