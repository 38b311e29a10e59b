-- Plans over whole runs of changes.
use Rattle.std.proofs.Common.{◌≡◌, ℕ, ◌<◌, ◌≤◌, List, [], ◌∷◌, ◌++◌, length, Option, Some, None, Result, Ok, Err, refl, sym, ap, subst, ◌∙◌, arith}
use Rattle.fpl_message.specs.declared.refusal.Refusal.{Refusal}
use Rattle.fpl_message.specs.Messages.{FplView}
use Rattle.fpl_message.specs.Refusals.{◌>>=◌}
use Rattle.flow_plans.specs.Plans.{PlanView}
use Rattle.flow_plans.specs.Changes.{Changed, filed, delayed, cancelled, departed, amended}
use Rattle.flow_plans.specs.Distinct.{AreDistinct, KeepKeys, KeepFlights}
use Rattle.flow_plans.specs.Runs.{Change, file, delay, amend, cancel, depart, change_of, or_same, changed_all, Turn, changes, takes_back, Held, held_after, held_before, after_turn, after_turns, nothing_held}
use Rattle.flow_plans.proofs.Distincts.{filed-distinct, filed-keys, filed-count, delayed-distinct, delayed-keys, delayed-count, cancelled-distinct, cancelled-keys, cancelled-count, departed-distinct, departed-keys, departed-count, amended-distinct, amended-keys, amended-count}

-- ---- one change

taken : (r : Result Changed Refusal) (qs : List PlanView) → (r >>= (λ later. Ok later.plans)) ≡ Ok qs → (later : Changed) × (r ≡ Ok later) × (later.plans ≡ qs)
taken (Ok later) qs e = let same : later.plans ≡ qs = cc in (later, refl, same)
taken (Err refusal) qs e = absurd cc

flights-keys : (ps qs : List PlanView) → KeepKeys ps qs → KeepFlights ps qs
flights-keys ps qs keep number key h = (key.dest, keep number key h)

flights-same : (ps : List PlanView) → KeepFlights ps ps
flights-same ps number key h = (key.dest, h)

flights-then : (ps qs rs : List PlanView) → KeepFlights ps qs → KeepFlights qs rs → KeepFlights ps rs
flights-then ps qs rs a b number key h =
    let one = a number key h in
    b number (record key { dest = one.0 }) one.1

record Follows (ps qs : List PlanView) : Type 0 where
  distinct : AreDistinct ps → AreDistinct qs
  flights : KeepFlights ps qs
  count : length ps ≤ length qs

follows : (ps qs : List PlanView) (c : Change) → change_of ps c ≡ Ok qs → Follows ps qs
follows ps qs (file max now m) e = record {
  distinct = filed-distinct max now ps qs m e;
  flights = flights-keys ps qs (filed-keys max now ps qs m e);
  count = omega (arith, filed-count max now ps qs m e);
}
follows ps qs (delay now m) e =
    let t = taken (delayed now ps m) qs e in
    let later = t.0 in
    subst (λ (rs : List PlanView). Follows ps rs) t.2 (record {
      distinct = delayed-distinct now ps m later t.1;
      flights = flights-keys ps later.plans (delayed-keys now ps m later t.1);
      count = omega (arith, delayed-count now ps m later t.1);
    })
follows ps qs (amend now m) e =
    let t = taken (amended now ps m) qs e in
    let later = t.0 in
    subst (λ (rs : List PlanView). Follows ps rs) t.2 (record {
      distinct = amended-distinct now ps m later t.1;
      flights = amended-keys now ps m later t.1;
      count = omega (arith, amended-count now ps m later t.1);
    })
follows ps qs (cancel m) e =
    let t = taken (cancelled ps m) qs e in
    let later = t.0 in
    subst (λ (rs : List PlanView). Follows ps rs) t.2 (record {
      distinct = cancelled-distinct ps m later t.1;
      flights = flights-keys ps later.plans (cancelled-keys ps m later t.1);
      count = omega (arith, cancelled-count ps m later t.1);
    })
follows ps qs (depart m) e =
    let t = taken (departed ps m) qs e in
    let later = t.0 in
    subst (λ (rs : List PlanView). Follows ps rs) t.2 (record {
      distinct = departed-distinct ps m later t.1;
      flights = flights-keys ps later.plans (departed-keys ps m later t.1);
      count = omega (arith, departed-count ps m later t.1);
    })

-- ---- changes, one after the other

one-follows : (ps : List PlanView) (c : Change) (r : Result (List PlanView) Refusal) → change_of ps c ≡ r → Follows ps (or_same ps r)
one-follows ps c (Ok qs) e = follows ps qs c e
one-follows ps c (Err refusal) e = record { distinct = λ d. d; flights = flights-same ps; count = omega arith }

all-follow : (cs : List Change) (ps : List PlanView) → Follows ps (changed_all cs ps)
all-follow [] ps = record { distinct = λ d. d; flights = flights-same ps; count = omega arith }
all-follow (c ∷ cs) ps =
    let qs = or_same ps (change_of ps c) in
    let one = one-follows ps c (change_of ps c) refl in
    let rest = all-follow cs qs in
    record {
      distinct = λ d. rest.distinct (one.distinct d);
      flights = flights-then ps qs (changed_all cs qs) one.flights rest.flights;
      count = omega (arith, one.count, rest.count);
    }

pub all-flights : (cs : List Change) (ps : List PlanView) → KeepFlights ps (changed_all cs ps)
all-flights cs ps = (all-follow cs ps).flights

pub all-later : (cs : List Change) (ps : List PlanView) (max now : ℕ) (m : FplView) (qs : List PlanView) → filed max now (changed_all cs ps) m ≡ Ok qs → length ps < length qs
all-later cs ps max now m qs e = omega (arith, (all-follow cs ps).count, filed-count max now (changed_all cs ps) qs m e)

-- ---- turns

record IsHeld (held : Held) : Type 0 where
  now_distinct : AreDistinct held.plans
  before_distinct : (plans : List PlanView) → held.before ≡ Some plans → AreDistinct plans

some-plans : (xs ys : List PlanView) → Some xs ≡ Some ys → xs ≡ ys
some-plans xs ys e = cc

changed-held : (held : Held) (c : Change) (r : Result (List PlanView) Refusal) → change_of held.plans c ≡ r → IsHeld held → IsHeld (held_after held r)
changed-held held c (Err refusal) e h = h
changed-held held c (Ok later) e h = record {
  now_distinct = (follows held.plans later c e).distinct h.now_distinct;
  before_distinct = λ plans is. subst (λ (ps : List PlanView). AreDistinct ps) (some-plans held.plans plans is) h.now_distinct;
}

back-held : (held : Held) (before : Option (List PlanView)) → held.before ≡ before → IsHeld held → IsHeld (held_before held before)
back-held held None e h = h
back-held held (Some plans) e h = record { now_distinct = h.before_distinct plans e; before_distinct = λ qs is. absurd cc }

turns-held : (turns : List Turn) (held : Held) → IsHeld held → IsHeld (after_turns turns held)
turns-held [] held h = h
turns-held (changes c ∷ turns) held h = turns-held turns (held_after held (change_of held.plans c)) (changed-held held c (change_of held.plans c) refl h)
turns-held (takes_back ∷ turns) held h = turns-held turns (held_before held held.before) (back-held held held.before refl h)

no-plans : AreDistinct []
no-plans place other p q a b hp hq same = absurd cc

pub turns-distinct : (turns : List Turn) → AreDistinct (after_turns turns nothing_held).plans
turns-distinct turns = (turns-held turns nothing_held (record { now_distinct = no-plans; before_distinct = λ plans is. absurd cc })).now_distinct

-- what is held is what changes alone make
abbrev Made : List PlanView → Type 0
Made plans = (cs : List Change) × (plans ≡ changed_all cs [])

record IsMade (held : Held) : Type 0 where
  now_made : Made held.plans
  before_made : (plans : List PlanView) → held.before ≡ Some plans → Made plans

changed-last : (cs : List Change) (c : Change) (ps : List PlanView) → changed_all (cs ++ c ∷ []) ps ≡ or_same (changed_all cs ps) (change_of (changed_all cs ps) c)
changed-last [] c ps = refl
changed-last (d ∷ cs) c ps = changed-last cs c (or_same ps (change_of ps d))

changed-made : (held : Held) (c : Change) (r : Result (List PlanView) Refusal) → change_of held.plans c ≡ r → IsMade held → IsMade (held_after held r)
changed-made held c (Err refusal) e h = h
changed-made held c (Ok later) e h =
    let cs = h.now_made.0 in
    let last : change_of (changed_all cs []) c ≡ Ok later = ap (λ (ps : List PlanView). change_of ps c) (sym h.now_made.1) ∙ e in
    record {
      now_made = (cs ++ c ∷ [], sym (changed-last cs c [] ∙ ap (λ (r : Result (List PlanView) Refusal). or_same (changed_all cs []) r) last));
      before_made = λ plans is. subst Made (some-plans held.plans plans is) h.now_made;
    }

back-made : (held : Held) (before : Option (List PlanView)) → held.before ≡ before → IsMade held → IsMade (held_before held before)
back-made held None e h = h
back-made held (Some plans) e h = record { now_made = h.before_made plans e; before_made = λ qs is. absurd cc }

turns-made : (turns : List Turn) (held : Held) → IsMade held → IsMade (after_turns turns held)
turns-made [] held h = h
turns-made (changes c ∷ turns) held h = turns-made turns (held_after held (change_of held.plans c)) (changed-made held c (change_of held.plans c) refl h)
turns-made (takes_back ∷ turns) held h = turns-made turns (held_before held held.before) (back-made held held.before refl h)

pub turns-are-changes : (turns : List Turn) → (cs : List Change) × ((after_turns turns nothing_held).plans ≡ changed_all cs [])
turns-are-changes turns = (turns-made turns nothing_held (record { now_made = ([], refl); before_made = λ plans is. absurd cc })).now_made

-- a change that is undone at once
pub back-at-once : (held : Held) (c : Change) (later : List PlanView) → change_of held.plans c ≡ Ok later
    → after_turns (changes c ∷ takes_back ∷ []) held ≡ record { plans = held.plans; before = None }
back-at-once held c later e = ap (λ (r : Result (List PlanView) Refusal). after_turn (held_after held r) takes_back) e
