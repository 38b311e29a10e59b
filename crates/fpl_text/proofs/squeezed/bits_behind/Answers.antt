use Rattle.std.proofs.Common.{◌≡◌, ◌∙◌, ◌*◌, ◌%◌, ◌^◌, Bool, true, false, cond, bit_or, refl, sym, subst}
use mir.Val.{bool_byte}
use Rattle.fpl_text.proofs.LookLemmas.{IsBehind, shifted-is}
use Rattle.fpl_text.proofs.squeezed.bits_behind.Goals as goal

as_bit : (p : Bool) → bool_byte p ≡ cond p 1 0
as_bit true = refl
as_bit false = refl

pub returns-clause-first : goal.returns-clause-first
returns-clause-first c =
    (subst (λ low. IsBehind c.args.first c.args.bits (bit_or (c.args.bits * 2 ^ 1 % 2 ^ 64) low)) (sym (c.from.ensures ∙ as_bit c.args.first)) (shifted-is c.args.first c.args.bits)).first

pub returns-clause-others : goal.returns-clause-others
returns-clause-others c =
    (subst (λ low. IsBehind c.args.first c.args.bits (bit_or (c.args.bits * 2 ^ 1 % 2 ^ 64) low)) (sym (c.from.ensures ∙ as_bit c.args.first)) (shifted-is c.args.first c.args.bits)).others
