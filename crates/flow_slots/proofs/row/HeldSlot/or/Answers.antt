use Rattle.std.proofs.Common.{◌≡◌, ◌-◌, ℕ, Bool, true, false, cond, eqb, Option, None, Some, refl, sym, ap, ◌∙◌, arith}
use Rattle.std.specs.Prelude.{bit_or}
use Rattle.std.specs.Int.Bits.{or_zero_l}
use Rattle.std.proofs.lemmas.Bool.{eqb-true}
use Rattle.std.proofs.lemmas.Nat.{le_or_l, le_or_r}
use Rattle.flow_slots.proofs.row.HeldSlot.or.Goals as goal

held : ℕ → Option ℕ
held n = cond (eqb n 0) None (Some (n - 1))

-- the number of no slot
none-zero : (n : ℕ) (b : Bool) → eqb n 0 ≡ b → cond b None (let s : Option ℕ = Some (n - 1) in s) ≡ None → n ≡ 0
none-zero n true q e = eqb-true n 0 q
none-zero n false q e = cc

bits-none : (n other : ℕ) (slot : Option ℕ) → held n ≡ slot → bit_or other n ≡ 0 → (other ≡ 0) × (slot ≡ None)
unfolding held
bits-none n other slot is e =
    let zero : n ≡ 0 = omega (arith, le_or_r other n, e) in
    (omega (arith, le_or_l other n, e), sym is ∙ ap held zero)

none-bits : (n other : ℕ) (slot : Option ℕ) → held n ≡ slot → (other ≡ 0) × (slot ≡ None) → bit_or other n ≡ 0
unfolding held
none-bits n other slot is both = ap (λ v. bit_or v n) both.0 ∙ (or_zero_l n ∙ none-zero n (eqb n 0) refl (is ∙ both.1))

pub returns : goal.returns
unfolding held
returns c =
    (λ e. bits-none c.self.inside.after c.args.other c.args.self c.self.view_is e, λ both. none-bits c.self.inside.after c.args.other c.args.self c.self.view_is both)
