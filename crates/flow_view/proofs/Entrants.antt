-- The plans of a desk, one by one.
use Rattle.std.proofs.Common.{◌≡◌, ◌≤◌, ◌+◌, ◌∙◌, ◌++◌, ◌∷◌, [], ℕ, List, Option, Some, length, take, refl, ap, sym, arith, slice_get}
use Rattle.std.specs.Prelude.{flat_map, Result, Ok, Err}
use Rattle.std.specs.Option.{option_to_list}
use Rattle.std.proofs.lemmas.List.{flat_map_more, take_more}
use Rattle.std.proofs.lemmas.Option.{get_or_from_slice_get, slice_get_within}
use Rattle.fpl_message.specs.declared.refusal.Refusal.{Refusal}
use Rattle.fpl_message.specs.Reads.{reading_of}
use Rattle.flow_plans.specs.Settings.{SetupView}
use Rattle.flow_traffic.specs.Asked.{Asked, asked}
use Rattle.flow_traffic.specs.Answers.{settle}
use Rattle.flow_core.specs.State.{State, Input, fresh}
use Rattle.flow_core.specs.Steps.{step, steps, run, answered}
use Rattle.flow_core.proofs.SlotRuns.{Fits, step-fits, fresh-fits}

-- one more is appended
pub next-taken : {X Y : Type 0} (f : X → Option Y) (xs : List X) (i : ℕ) (x : X) (made more : List Y) (o : Option Y) → slice_get xs i ≡ Some x
    → made ≡ flat_map (λ y. option_to_list (f y)) (take i xs) → o ≡ f x → more ≡ made ++ option_to_list o
    → more ≡ flat_map (λ y. option_to_list (f y)) (take (i + 1) xs)
next-taken {X} {Y} f xs i x made more o here so is added =
    let g : X → List Y = λ y. option_to_list (f y) in
    added
    ∙ (ap (λ (ys : List Y). ys ++ option_to_list o) so
    ∙ (ap (λ (p : Option Y). flat_map g (take i xs) ++ option_to_list p) is
    ∙ (flat_map_more g [] (take i xs) x
    ∙ ap (flat_map g) (ap (λ y. take i xs ++ y ∷ []) (sym (get_or_from_slice_get xs i x x here)) ∙ sym (take_more xs i x (slice_get_within xs i x here))))))

-- a desk has at most as many plans as its setup allows
record Few (max : ℕ) (s : State) : Type 0 where
  pub fits : Fits s.traffic
  pub most : s.traffic.max_plans ≡ max

answered-most : (s : State) (input : Input) (r : Result Asked Refusal) → (answered s input r).traffic.max_plans ≡ s.traffic.max_plans
unfolding settle
answered-most s input (Err why) = refl
answered-most s input (Ok a) = refl

step-most : (s : State) (input : Input) → (step s input).traffic.max_plans ≡ s.traffic.max_plans
unfolding step
step-most s input = answered-most s input (asked s.traffic (reading_of input.text))

steps-few : (max : ℕ) (s : State) (inputs : List Input) → Few max s → Few max (steps s inputs)
unfolding steps
steps-few max s [] few = few
steps-few max s (input ∷ inputs) few =
    steps-few max (step s input) inputs (record { fits = step-fits s input few.fits; most = step-most s input ∙ few.most })

run-few : (setup : SetupView) (filed : List Input) → Few setup.max_plans (run setup filed)
unfolding run
run-few setup filed = steps-few setup.max_plans (fresh setup) filed (record { fits = fresh-fits setup; most = refl })

pub few-plans : (setup : SetupView) (filed : List Input) → length (run setup filed).traffic.plans ≤ setup.max_plans
few-plans setup filed =
    let few = run-few setup filed in omega (arith, few.fits.few, few.most)
