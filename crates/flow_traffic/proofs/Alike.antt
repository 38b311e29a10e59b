-- The states of plans, one by one, and the slot lists of the open regulations.
use Rattle.std.proofs.Common.{◌≡◌, ℕ, Bool, zero, suc, ◌+◌, List, [], ◌∷◌, map, take, Option, refl, sym, ap, ◌∙◌, add-one}
use Rattle.std.specs.Prelude.{slice_get}
use Rattle.std.specs.Bool.{Decides}
use Rattle.std.specs.Option.{option_map}
use Rattle.flow_plans.specs.Plans.{PlanView}
use Rattle.flow_regulations.specs.Regulations.{Regulation, lineup_of}
use Rattle.flow_regulations.specs.Listing.{RegulationView, regulation_of, with_lineup, IsListed}
use Rattle.flow_traffic.specs.Traffic.{Traffic}
use Rattle.flow_traffic.specs.Same.{Standing, standing_of, standings, slot_lists, IsSame}

-- the state of the plan at an index
abbrev pub standing_at : List PlanView → ℕ → Option Standing
standing_at ps i = option_map standing_of (slice_get ps i)

pub standing-at : (ps : List PlanView) (i : ℕ) → standing_at ps i ≡ slice_get (standings ps) i
standing-at [] i = refl
standing-at (p ∷ ps) zero = refl
standing-at (p ∷ ps) (suc i) = standing-at ps i

-- in plans of the same states those of each number have the same
pub alike-at : (ps qs : List PlanView) (i : ℕ) → standings ps ≡ standings qs → standing_at ps i ≡ standing_at qs i
alike-at ps qs i e = standing-at ps i ∙ (ap (λ v. slice_get v i) e ∙ sym (standing-at qs i))

-- one more
alike-next : (ps qs : List PlanView) (i : ℕ) → take i (standings ps) ≡ take i (standings qs) → standing_at ps i ≡ standing_at qs i → take (suc i) (standings ps) ≡ take (suc i) (standings qs)
alike-next [] [] i t e = refl
alike-next [] (q ∷ qs) zero t e = cc
alike-next [] (q ∷ qs) (suc i) t e = cc
alike-next (p ∷ ps) [] zero t e = cc
alike-next (p ∷ ps) [] (suc i) t e = cc
alike-next (p ∷ ps) (q ∷ qs) zero t e =
    let same : standing_of p ≡ standing_of q = cc in
    ap (λ s. s ∷ []) same
alike-next (p ∷ ps) (q ∷ qs) (suc i) t e =
    let same : standing_of p ≡ standing_of q = cc in
    let others : take i (standings ps) ≡ take i (standings qs) = cc in
    ap (λ s. s ∷ take (suc i) (standings ps)) same ∙ ap (λ ss. standing_of q ∷ ss) (alike-next ps qs i others e)

pub alike-more : (ps qs : List PlanView) (i : ℕ) → take i (standings ps) ≡ take i (standings qs) → standing_at ps i ≡ standing_at qs i → take (i + 1) (standings ps) ≡ take (i + 1) (standings qs)
alike-more ps qs i t e = rw add-one (alike-next ps qs i t e)

-- the slot lists that are kept are those of the regulations
abbrev listed_by : ℕ → ℕ → List PlanView → Regulation → RegulationView
listed_by taxi max plans r = record { id = r.id; spot = r.spot; lineup = lineup_of taxi max plans r }

pub kept-lists : (taxi max : ℕ) (plans : List PlanView) (ls : List RegulationView) → IsListed taxi max plans ls → map (listed_by taxi max plans) (map regulation_of ls) ≡ ls
kept-lists taxi max plans [] h = refl
kept-lists taxi max plans (l ∷ ls) h =
    ap (λ v. with_lineup v l ∷ map (listed_by taxi max plans) (map regulation_of ls)) (sym h.0) ∙ ap (λ vs. l ∷ vs) (kept-lists taxi max plans ls h.1)

-- if the other parts are the same, the slot lists decide
pub same-lists : (t u : Traffic) (r : Bool) → t.notices ≡ u.notices → t.told ≡ u.told → standings t.plans ≡ standings u.plans → Decides r (slot_lists t ≡ slot_lists u) → Decides r (IsSame t u)
same-lists t u r n o p d = ((λ h. record { notices = n; plans = p; told = o; lists = d.0 h }), (λ s. d.1 s.lists))
