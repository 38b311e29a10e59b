-- What a filing at a time gives, by the tests that it passes.
use Rattle.std.proofs.Common.{◌≡◌, ℕ, ◌+◌, ◌≤◌, ◌<◌, ◌==◌, Bool, true, false, cond, nat_lt, List, [], ◌∷◌, ◌++◌, length, Ok, Err, refl}
use Rattle.std.proofs.lemmas.Bool.{le-ltb, le-leb, lt-leb}
use Rattle.std.specs.Ordering.{is_lt, nat_cmp}
use Rattle.std.specs.declared.cmp.Ordering.TheVariants.{Less, Equal, Greater}
use Rattle.std.specs.List.{list_any}
use Rattle.fpl_message.specs.declared.refusal.Refusal.TheVariants as refusal
use Rattle.fpl_message.specs.Messages.{FplView}
use Rattle.flow_plans.specs.Plans.{PlanView, is_held_as}
use Rattle.flow_plans.specs.Changes.{key_of, plan_of, asked_off_block, filed}

-- an order of times decides which is earlier
pub is-earlier : (a b : ℕ) → is_lt (nat_cmp a b) ≡ nat_lt a b
is-earlier a b = by (nat_lt a b) (a == b)
  where
    by : (l e : Bool) → is_lt (cond l Less (cond e Equal Greater)) ≡ l
    by true e = refl
    by false true = refl
    by false false = refl

pub filed-past : (max now moment : ℕ) (plans : List PlanView) (m : FplView) → moment ≡ asked_off_block now m → nat_lt moment now ≡ true → filed max now plans m ≡ Err refusal.Past
unfolding filed plan_of
filed-past max now moment plans m at early = rw (← at, early) refl

pub filed-held : (max now moment : ℕ) (plans : List PlanView) (m : FplView) → moment ≡ asked_off_block now m → nat_lt moment now ≡ false → moment ≤ now + 7200
    → list_any (is_held_as (key_of moment m)) plans ≡ true → filed max now plans m ≡ Err refusal.AlreadyHeld
unfolding filed plan_of
filed-held max now moment plans m at late soon held = rw (← at, late, le-ltb (now + 7200) moment soon, held) refl

pub filed-full : (max now moment : ℕ) (plans : List PlanView) (m : FplView) → moment ≡ asked_off_block now m → nat_lt moment now ≡ false → moment ≤ now + 7200
    → list_any (is_held_as (key_of moment m)) plans ≡ false → max ≤ length plans → filed max now plans m ≡ Err refusal.PlansFull
unfolding filed plan_of
filed-full max now moment plans m at late soon free full = rw (← at, late, le-ltb (now + 7200) moment soon, free, le-leb max (length plans) full) refl

pub filed-last : (max now moment : ℕ) (plans : List PlanView) (m : FplView) → moment ≡ asked_off_block now m → nat_lt moment now ≡ false → moment ≤ now + 7200
    → list_any (is_held_as (key_of moment m)) plans ≡ false → length plans < max → filed max now plans m ≡ Ok (plans ++ plan_of moment m ∷ [])
unfolding filed plan_of
filed-last max now moment plans m at late soon free room = rw (← at, late, le-ltb (now + 7200) moment soon, free, lt-leb max (length plans) room) refl
