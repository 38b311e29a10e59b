-- How many plans a desk holds: one more after an accepted flight plan, and never more than the
-- setup allows.
use Rattle.std.proofs.Common.{◌≡◌, ◌≤◌, ◌<◌, ◌+◌, ◌∙◌, ℕ, suc, Bool, true, false, List, [], ◌∷◌, length, Option, Result, Ok, Err, refl, sym, ap, subst, arith}
use Rattle.std.specs.Prelude.{nat_le}
use Rattle.std.proofs.lemmas.Bool.{leb-false}
use Rattle.fpl_message.specs.declared.refusal.Refusal.{Refusal}
use Rattle.fpl_message.specs.declared.refusal.Refusal.TheVariants as refusal
use Rattle.fpl_message.specs.Messages.{Message, FplView, fpl, dla, chg, cnl, dep, open_reg, shut_reg, set_time}
use Rattle.fpl_message.specs.Reads.{ReadingView, msg, ord, bad, reading_of}
use Rattle.fpl_message.specs.Refusals.{◌>>=◌}
use Rattle.flow_plans.specs.Settings.{SetupView}
use Rattle.flow_plans.specs.Plans.{PlanView}
use Rattle.flow_plans.specs.Times.{unless}
use Rattle.flow_plans.specs.Changes.{Changed, filed}
use Rattle.flow_plans.proofs.Distincts.{filed-count, delayed-count, cancelled-count, departed-count, amended-count}
use Rattle.flow_regulations.specs.Regulations.{Regulation}
use Rattle.flow_regulations.specs.Notices.{told_from}
use Rattle.flow_regulations.specs.declared.notice.Told.{Told}
use Rattle.flow_traffic.specs.Traffic.{Traffic}
use Rattle.flow_traffic.specs.Asked.{Asked, asked, plans_changed_by, asked_by_message, asked_to_open, asked_to_shut, asked_at}
use Rattle.flow_traffic.specs.Answers.{told_to, settle}
use Rattle.flow_traffic.proofs.Changing.{ok-same, unless-ok}
use Rattle.flow_core.specs.State.{State, Input, fresh, rows_of}
use Rattle.flow_core.specs.Steps.{answered, step, steps, run}
use Rattle.flow_core.specs.Changes.{rows_in}

unless-not : {X : Type 0} (b : Bool) (r : Refusal) (next : Result X Refusal) (x : X) → unless b r next ≡ Ok x → b ≡ false
unless-not true r next x e = absurd (cc)
unless-not false r next x e = refl

then-ok : {X Y : Type 0} (r : Result X Refusal) (f : X → Result Y Refusal) (y : Y) → (r >>= f) ≡ Ok y → (x : X) × (r ≡ Ok x) × (f x ≡ Ok y)
then-ok (Ok x) f y e = (x, refl, e)
then-ok (Err r) f y e = absurd (cc)

filed-room : (max now : ℕ) (ps qs : List PlanView) (m : FplView) → filed max now ps m ≡ Ok qs → length ps < max
unfolding filed
filed-room max now ps qs m e =
    let a = unless-ok _ refusal.Past _ qs e in
    let b = unless-ok _ refusal.TooEarly _ qs a in
    let c = unless-ok _ refusal.AlreadyHeld _ qs b in
    leb-false max (length ps) (unless-not (nat_le max (length ps)) refusal.PlansFull _ qs c)

-- one plan more or none, and none above the limit
abbrev pub Grows : ℕ → List PlanView → List PlanView → Type 0
Grows max ps qs = (length ps ≤ length qs) × (length ps ≤ max → length qs ≤ max)

as-many : (max : ℕ) (ps qs : List PlanView) → length qs ≡ length ps → Grows max ps qs
as-many max ps qs e = (omega (arith, e), λ few. omega (arith, e, few))

changed-grows : (max now : ℕ) (ps : List PlanView) (m : Message) (c : Changed) → plans_changed_by max now ps m ≡ Ok c → Grows max ps c.plans
unfolding plans_changed_by
changed-grows max now ps (fpl m) c e =
    let a = then-ok (filed max now ps m) _ c e in
    let made : Changed = record { plans = a.0; number = length a.0 } in
    let count = filed-count max now ps a.0 m a.1 in
    let room = filed-room max now ps a.0 m a.1 in
    subst (λ (d : Changed). Grows max ps d.plans) (ok-same made c a.2) (omega (arith, count), λ few. omega (arith, count, room))
changed-grows max now ps (dla m) c e = as-many max ps c.plans (delayed-count now ps m c e)
changed-grows max now ps (chg m) c e = as-many max ps c.plans (amended-count now ps m c e)
changed-grows max now ps (cnl m) c e = as-many max ps c.plans (cancelled-count ps m c e)
changed-grows max now ps (dep m) c e = as-many max ps c.plans (departed-count ps m c e)

message-grows : (t : Traffic) (m : Message) (a : Asked) → asked_by_message t m ≡ Ok a → Grows t.max_plans t.plans a.plans
unfolding asked_by_message
message-grows t m a e =
    let b = then-ok (plans_changed_by t.max_plans t.now t.plans m) _ a e in
    subst (λ (d : Asked). Grows t.max_plans t.plans d.plans) (ok-same _ a b.2) (changed-grows t.max_plans t.now t.plans m b.0 b.1)

ordered-grows : (t : Traffic) (b a : Asked) → b.plans ≡ t.plans → b ≡ a → Grows t.max_plans t.plans a.plans
ordered-grows t b a same e = subst (λ (d : Asked). Grows t.max_plans t.plans d.plans) e (as-many t.max_plans t.plans b.plans (ap length same))

pub asked-grows : (t : Traffic) (r : ReadingView) (a : Asked) → asked t r ≡ Ok a → Grows t.max_plans t.plans a.plans
unfolding asked_to_open asked_to_shut asked_at
asked-grows t (msg m) a e = message-grows t m a e
asked-grows t (ord (open_reg m)) a e =
    let b = unless-ok _ refusal.BadPeriod _ a e in
    let c = unless-ok _ refusal.BadRate _ a b in
    let d = unless-ok _ refusal.RegulationHeld _ a c in
    ordered-grows t _ a refl (ok-same _ a (unless-ok _ refusal.RegulationsFull _ a d))
asked-grows t (ord (shut_reg id)) a e = ordered-grows t _ a refl (ok-same _ a (unless-ok _ refusal.NoRegulation _ a e))
asked-grows t (ord (set_time at)) a e = ordered-grows t _ a refl (ok-same _ a (unless-ok _ refusal.TimeBack _ a e))
asked-grows t (bad r) a e = absurd (cc)

-- each plan has an issued slot or none
to-each : (ps : List PlanView) (ts : List (Option Told)) → length (told_to ps ts) ≡ length ps
to-each [] ts = refl
to-each (p ∷ ps) [] = ap suc (to-each ps [])
to-each (p ∷ ps) (t ∷ ts) = ap suc (to-each ps ts)

from-each : (n taxi : ℕ) (rs : List Regulation) (ps : List PlanView) (ts : List (Option Told)) → length ts ≡ length ps → length (told_from n taxi rs ps ts) ≡ length ps
from-each n taxi rs [] [] e = refl
from-each n taxi rs [] (t ∷ ts) e = absurd (omega (arith, e))
from-each n taxi rs (p ∷ ps) [] e = absurd (omega (arith, e))
from-each n taxi rs (p ∷ ps) (t ∷ ts) e =
    let rest : length ts ≡ length ps = omega (arith, e) in ap suc (from-each (n + 1) taxi rs ps ts rest)

-- the plans of a desk
record Holds (s : State) : Type 0 where
  pub each : length s.traffic.told ≡ length s.traffic.plans
  pub room : length s.traffic.plans ≤ s.traffic.max_plans
  pub limit : s.traffic.max_plans ≡ s.setup.max_plans

-- they are no fewer after a step
record HoldsMore (s t : State) : Type 0 where
  pub holds : Holds t
  pub more : length s.traffic.plans ≤ length t.traffic.plans
  pub setup : t.setup ≡ s.setup

settle-more : (s : State) (a : Asked) → Holds s → Grows s.traffic.max_plans s.traffic.plans a.plans
    → (length (settle s.traffic a).told ≡ length a.plans) × ((settle s.traffic a).plans ≡ a.plans) × ((settle s.traffic a).max_plans ≡ s.traffic.max_plans)
unfolding settle
settle-more s a holds grows = (from-each 1 s.traffic.taxi _ a.plans (told_to a.plans s.traffic.told) (to-each a.plans s.traffic.told), refl, refl)

answered-more : (s : State) (i : Input) (r : Result Asked Refusal) → asked s.traffic (reading_of i.text) ≡ r → Holds s → HoldsMore s (answered s i r)
answered-more s i (Err refusal) e holds = record { holds = record { each = holds.each; room = holds.room; limit = holds.limit }; more = omega arith; setup = refl }
answered-more s i (Ok a) e holds =
    let grows = asked-grows s.traffic (reading_of i.text) a e in
    let m = settle-more s a holds grows in
    let plans : length (settle s.traffic a).plans ≡ length a.plans = ap length m.1 in
    record {
      holds = record { each = m.0 ∙ sym plans; room = rw (m.1, m.2) (grows.1 holds.room); limit = m.2 ∙ holds.limit };
      more = rw m.1 grows.0;
      setup = refl;
    }

step-more : (s : State) (i : Input) → Holds s → HoldsMore s (step s i)
unfolding step
step-more s i holds = answered-more s i (asked s.traffic (reading_of i.text)) refl holds

record HoldsAfter (setup : SetupView) (s : State) : Type 0 where
  pub holds : Holds s
  pub same : s.setup ≡ setup

steps-hold : (setup : SetupView) (s : State) (filed : List Input) → Holds s → s.setup ≡ setup → HoldsAfter setup (steps s filed)
unfolding steps
steps-hold setup s [] holds e = record { holds = holds; same = e }
steps-hold setup s (i ∷ is) holds e =
    let m = step-more s i holds in steps-hold setup (step s i) is m.holds (m.setup ∙ e)

run-holds : (setup : SetupView) (filed : List Input) → HoldsAfter setup (run setup filed)
unfolding run
run-holds setup filed = steps-hold setup (fresh setup) filed (record { each = refl; room = omega arith; limit = refl }) refl

rows-count : (ps : List PlanView) (ts : List (Option Told)) → length ts ≡ length ps → length (rows_of ps ts) ≡ length ps
rows-count [] ts e = refl
rows-count (p ∷ ps) [] e = absurd (omega (arith, e))
rows-count (p ∷ ps) (t ∷ ts) e =
    let rest : length ts ≡ length ps = omega (arith, e) in ap suc (rows-count ps ts rest)

-- the rows are those of the plans, at most as many as the setup allows
pub rows-few : (setup : SetupView) (filed : List Input) → length (rows_in (run setup filed).traffic) ≤ setup.max_plans
rows-few setup filed =
    let t = (run setup filed).traffic in
    let h = run-holds setup filed in
    let limit : t.max_plans ≡ setup.max_plans = h.holds.limit ∙ ap (λ (s : SetupView). s.max_plans) h.same in
    omega (arith, rows-count t.plans t.told h.holds.each, h.holds.room, limit)

-- they are no fewer after one more filing
pub rows-more : (setup : SetupView) (filed : List Input) (i : Input) → length (rows_in (run setup filed).traffic) ≤ length (rows_in (step (run setup filed) i).traffic)
rows-more setup filed i =
    let s = run setup filed in
    let h = (run-holds setup filed).holds in
    let m = step-more s i h in
    let t = step s i in
    omega (arith, rows-count s.traffic.plans s.traffic.told h.each, rows-count t.traffic.plans t.traffic.told m.holds.each, m.more)
