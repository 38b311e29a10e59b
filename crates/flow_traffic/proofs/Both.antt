-- What an option holds is one value.
use Rattle.std.proofs.Common.{◌≡◌, ◌∙◌, sym, ap, Option, Some, None}

abbrev or-else : {X : Type 0} → Option X → X → X
or-else (Some x) y = x
or-else None y = y

pub some-same : {X : Type 0} (o : Option X) (x y : X) → o ≡ Some x → o ≡ Some y → x ≡ y
some-same o x y a b = ap (λ r. or-else r x) (sym a ∙ b)
