use Rattle.std.proofs.Common.{◌≡◌, ℕ, ◌+◌, ◌-◌, ◌<◌, List, length, map, take, get_or, refl, sym, ap, subst, ◌∙◌, arith}
use Rattle.flow_regulations.specs.Listing.{RegulationView, IsReleased, with_fixed_waiting}
use Rattle.flow_regulations.proofs.Advances.{fixed-start}
use Rattle.flow_regulations.proofs.Alls.{names-released}
use Rattle.flow_regulations.proofs.Marking.{marked-walked}
use Rattle.flow_regulations.proofs.Outs.{out-released}
use Rattle.flow_regulations.proofs.Rows.{rows-released}
use Rattle.flow_regulations.proofs.Released.{release-step, capacity-released}
use Rattle.flow_regulations.proofs.regulations.release_all_in.Goals as goal

pub loop-left-preserved : goal.loop-left-preserved
loop-left-preserved g c =
    let j : ℕ = c.loop-left.left - 1 in
    let plans = c.args.plans.now.plans in
    let taxi = c.args.plans.now.taxi in
    let due : List ℕ = c.args.due.now in
    let ms : List RegulationView = c.loop-left.regulations in
    let xs : List RegulationView = c.release_in.new.regulations in
    let within : j < length due = omega (arith, c.loop-left-test.true, c.loop-left.invariant.within) in
    let next : c.loop-left.left ≡ j + 1 = omega (arith, c.loop-left-test.true) in
    record {
      within = omega (arith, within);
      capacity = λ max h. capacity-released (get_or due j 0) taxi max (length xs) plans ms xs refl c.release_in.ensures (c.loop-left.invariant.capacity max h);
      names = names-released (get_or due j 0) taxi (length xs) plans ms xs refl c.release_in.ensures ∙ c.loop-left.invariant.names;
      marked = λ words h.
          (let n = c.requires j 0 within in
          marked-walked (IsReleased (get_or due j 0) taxi plans) words (length xs) ms xs (out-released (get_or due j 0) taxi plans n.0 n.1) refl c.release_in.ensures (c.loop-left.invariant.marked words h));
      rows = λ table h.
          (let n = c.requires j 0 within in
          rows-released (get_or due j 0) taxi (length xs) plans table ms xs n.0 n.1 refl c.release_in.ensures (c.loop-left.invariant.rows table h));
      lists = λ max earlier now before h e.
          (let M : ℕ → Type 0 = λ i. ms ≡ map (with_fixed_waiting (take i due)) before in
          release-step taxi max earlier now j plans due before ms xs h within (subst M next (c.loop-left.invariant.lists max earlier now before h e)) c.release_in.ensures);
    }

pub returns-clause-lists : goal.returns-clause-lists
returns-clause-lists g c = λ max earlier now before h e.
    (let none : c.loop-left.left ≡ 0 = omega (arith, c.loop-left-test.false) in
    c.loop-left.invariant.lists max earlier now before h e ∙ (ap (λ i. map (with_fixed_waiting (take i c.args.due.now)) before) none ∙ sym (fixed-start before)))
