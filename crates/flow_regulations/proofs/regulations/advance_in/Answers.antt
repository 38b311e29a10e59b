use Rattle.std.proofs.Common.{◌≡◌, ℕ, ◌+◌, ◌<◌, List, [], length, map, take, get_or, refl, sym, ap, subst, ◌∙◌, arith}
use Rattle.std.proofs.lemmas.List.{take_all}
use Rattle.flow_regulations.specs.Listing.{RegulationView, Walked, IsFixedWaiting, IsAdvancing, is_among, with_fixed_waiting}
use Rattle.flow_regulations.proofs.Marking.{marked-walked}
use Rattle.flow_regulations.proofs.Outs.{out-fixed}
use Rattle.flow_regulations.proofs.Advances.{walk-start, walk-step, among-more, fixed-start, fixed-more}
use Rattle.flow_regulations.proofs.regulations.advance_in.Goals as goal

pub loop-number-init : goal.loop-number-init
loop-number-init g c = record {
  lists = fixed-start c.args.regulations.now;
  walked = λ taxi now plans _. walk-start (is_among []) taxi now plans c.args.regulations.now (λ f h. refl);
  marked = c.requires;
}

pub fix_waiting_in-requires : goal.fix_waiting_in-requires
fix_waiting_in-requires g c =
    c.of.ensures c.loop-number.regulations c.loop-number.invariant.marked

pub loop-number-preserved : goal.loop-number-preserved
loop-number-preserved g c =
    let os : List RegulationView = c.args.regulations.now in
    let ms : List RegulationView = c.loop-number.regulations in
    let xs : List RegulationView = c.fix_waiting_in.new.regulations in
    let j : ℕ = c.loop-number.number-index in
    let ns : List ℕ = c.args.due.now in
    let n : ℕ = get_or ns j 0 in
    let within : j < length ns = c.loop-number-test.true in
    let len : length ms ≡ length xs = sym c.fix_waiting_in.auto.regulations in
    record {
      lists = fixed-more j n ns os ms xs within refl c.loop-number.invariant.lists c.fix_waiting_in.ensures;
      walked = λ taxi now plans all.
          (let V : ℕ → Type 0 = λ i. Walked (IsAdvancing (is_among (take (j + 1) ns)) taxi now plans) i os xs in
          let U : ℕ → Type 0 = λ i. Walked (IsFixedWaiting n) i ms xs in
          let d = all j 0 within in
          subst V len (walk-step n (is_among (take j ns)) (is_among (take (j + 1) ns)) taxi now (length ms) plans os ms xs (among-more j n ns within refl) d.0 d.1 refl (c.loop-number.invariant.walked taxi now plans all) (subst U (sym len) c.fix_waiting_in.ensures)));
      marked = marked-walked (IsFixedWaiting n) c.args.marks.now (length xs) ms xs (λ f l m r h. out-fixed n f l m r h) refl c.fix_waiting_in.ensures c.loop-number.invariant.marked;
    }

pub returns-clause-lists : goal.returns-clause-lists
returns-clause-lists g c =
    let all : take c.loop-number.number-index c.args.due.now ≡ c.args.due.now = take_all c.loop-number.number-index c.args.due.now (omega arith) in
    c.loop-number.invariant.lists ∙ ap (λ ns. map (with_fixed_waiting ns) c.args.regulations.now) all

pub returns-clause-marked : goal.returns-clause-marked
returns-clause-marked g c = c.loop-number.invariant.marked

pub returns-clause-walked : goal.returns-clause-walked
returns-clause-walked g c = λ taxi now plans due.
    (let all : take c.loop-number.number-index c.args.due.now ≡ c.args.due.now = take_all c.loop-number.number-index c.args.due.now (omega arith) in
    let xs : List RegulationView = c.loop-number.regulations in
    let W : List ℕ → Type 0 = λ ns. Walked (IsAdvancing (is_among ns) taxi now plans) (length xs) c.args.regulations.now xs in
    subst W all (c.loop-number.invariant.walked taxi now plans due))
