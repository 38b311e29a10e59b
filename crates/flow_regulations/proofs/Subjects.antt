-- The entry of a subject flight lies in the period.
use Rattle.std.proofs.Common.{◌≡◌, ℕ, ◌<◌, ◌≤◌, ◌&&◌, Bool, true, false, not, cond, leb, ltb, Option, Some, None, refl, arith}
use Rattle.std.specs.Prelude.{codes}
use Rattle.std.specs.Str.{bytes_eq}
use Rattle.std.proofs.lemmas.Bool.{leb-true, ltb-true, and_parts}
use Rattle.fpl_message.specs.declared.order.Spot.{Spot}
use Rattle.flow_plans.specs.Plans.{PlanView, is_filed, is_visual}
use Rattle.flow_plans.specs.Entries.{subject, entry_at, in_period}

in_period-within : (s t e : ℕ) (o : Option ℕ) → in_period s t o ≡ Some e → (s ≤ e) × (e < t)
in_period-within s t e None h = absurd cc
in_period-within s t e (Some m) h = cases (leb s m && ltb m t) refl h where
  cases : (b : Bool) → (leb s m && ltb m t) ≡ b → cond b (Some m) None ≡ Some e → (s ≤ e) × (e < t)
  cases false q h = absurd cc
  cases true q h =
      let same : m ≡ e = cc in
      let parts = and_parts (leb s m) (ltb m t) q in
      (omega (arith, same, leb-true s m parts.0), omega (arith, same, ltb-true m t parts.1))

pub subject-within : (taxi : ℕ) (spot : Spot) (s t e : ℕ) (p : PlanView) → subject taxi spot s t p ≡ Some e → (s ≤ e) × (e < t)
unfolding subject
subject-within taxi spot s t e p h = cases (is_filed p.state && not (is_visual p.rules) && not (bytes_eq p.key.dep (codes "AFIL")) && not p.exempt) h where
  cases : (b : Bool) → cond b (in_period s t (entry_at taxi spot p)) None ≡ Some e → (s ≤ e) × (e < t)
  cases true h = in_period-within s t e (entry_at taxi spot p) h
  cases false h = absurd cc
