-- Whether one of the flights that enter a regulation is due.
use Rattle.std.proofs.Common.{◌≡◌, ℕ, ◌+◌, ◌<◌, Bool, true, false, ◌&&◌, List, [], ◌∷◌, Option, Some, None, ◌≤◌, refl, sym, ap, subst, ◌∙◌, arith}
use Rattle.std.specs.Prelude.{IfSome}
use Rattle.std.specs.Option.{option_map_or}
use Rattle.std.proofs.lemmas.Bool.{lt-leb}
use Rattle.flow_plans.specs.Plans.{PlanView, plan_at, is_filed}
use Rattle.flow_plans.specs.Entries.{NoneEarlier}
use Rattle.flow_slots.specs.declared.cell.Planned.{Planned}
use Rattle.flow_regulations.specs.Regulations.{coming_from}
use Rattle.flow_regulations.specs.Settling.{is_due, is_due_flight}
use Rattle.flow_regulations.specs.Listing.{RegulationView, regulation_of, opened, AreUndue, NoneDue}
use Rattle.flow_regulations.specs.declared.due_queue.TheConstants.{ISSUE_LEAD}
use Rattle.flow_regulations.proofs.Coming.{waiting-all}

-- flights that have no earlier off-block time than one at which none is due
not-both : (a : Bool) → (a && false) ≡ false
not-both true = refl
not-both false = refl

undue-later : (now first : ℕ) (plans : List PlanView) (flights : List Planned) → now + ISSUE_LEAD < first → NoneEarlier first plans flights → AreUndue now plans flights
undue-later now first plans [] later none = tt
undue-later now first plans (w ∷ ws) later none = (by (plan_at plans w.flight) none.0, undue-later now first plans ws later none.1) where
  by : (o : Option PlanView) → IfSome o (λ p. first ≤ p.off_block) → option_map_or (is_due now) o false ≡ false
  by None h = refl
  by (Some p) h = ap (λ b. is_filed p.state && b) (lt-leb p.off_block (now + ISSUE_LEAD) (omega (arith, later, h))) ∙ not-both (is_filed p.state)

-- and all of them
pub undue-opened : (taxi now first : ℕ) (plans : List PlanView) (l new : RegulationView) (noted : List Planned) → noted ≡ coming_from 1 taxi (regulation_of l) plans → new ≡ opened taxi plans l → now + ISSUE_LEAD < first → NoneEarlier first plans noted → NoneDue now plans new
undue-opened taxi now first plans l new noted is made later none =
    subst (NoneDue now plans) (sym made) (waiting-all (λ w. is_due_flight now plans w.flight ≡ false) 1 taxi (regulation_of l) plans (subst (AreUndue now plans) is (undue-later now first plans noted later none)))
