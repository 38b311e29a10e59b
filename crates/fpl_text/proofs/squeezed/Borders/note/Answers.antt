use Rattle.std.proofs.Common.{◌≡◌, ◌≤◌, ◌+◌, ◌-◌, ◌*◌, ◌%◌, ◌^◌, Bool, true, false, not, cond, eqb, get_or, bit_and, w64, refl, ap, arith, ◌∙◌}
use mir.Val.{bool_byte}
use Rattle.std.specs.Int.{trailing_zeros}
use Rattle.std.proofs.lemmas.Nat.{one_shl}
use Rattle.fpl_text.proofs.BordersLemmas.{AreLeft, left-all, left-next, left-none, noted-none, noted-border, noted-few}
use Rattle.fpl_text.proofs.squeezed.Borders.note.Goals as goal

pub returns-then-later-eq0 : goal.returns-then-later-eq0
returns-then-later-eq0 c =
    let left : AreLeft c.args.text.now c.args.made c.args.bits c.args.count c.args.made (bit_and c.args.bits (1 * 2 ^ c.args.count % 18446744073709551616 - 1)) =
    rw (one_shl c.args.count 64 (omega (arith, c.requires.few))) (left-all c.args.text.now c.args.made c.args.bits c.args.count c.requires.bits) in
    noted-none c.args.text.now c.args.made c.args.count c.args.most _ c.requires.inside
    (λ k low high. left-none c.args.text.now c.args.made c.args.bits c.args.count c.args.made _ k left c.if-later-eq0.true low (omega (arith, high)))
    c.requires.noted

pub borders-init : goal.borders-init
borders-init c = record { left = init c.requires.few; noted = c.requires.noted } where
  init : c.args.count ≤ 63 → AreLeft c.args.text.now c.args.made c.args.bits c.args.count c.args.made (bit_and c.args.bits (1 * 2 ^ c.args.count % 18446744073709551616 - 1))
  init few =
      let one = one_shl c.args.count 64 (omega (arith, few)) in
      rw one (left-all c.args.text.now c.args.made c.args.bits c.args.count c.requires.bits)

pub push-requires-clause-fits : goal.push-requires-clause-fits
push-requires-clause-fits c room =
    let n = left-next c.args.text.now c.args.made c.args.bits c.args.count c.borders.after c.borders.later c.requires.few c.borders.auto.later-fits.fits c.borders.invariant.left c.borders-test.true in
    omega (arith, n.inside, c.requires.fits (omega (arith, room)))

pub push-requires-clause-room : goal.push-requires-clause-room
push-requires-clause-room c =
    let n = left-next c.args.text.now c.args.made c.args.bits c.args.count c.borders.after c.borders.later c.requires.few c.borders.auto.later-fits.fits c.borders.invariant.left c.borders-test.true in
    let few = noted-few c.args.text.now c.borders.after c.args.most _ c.borders.invariant.noted in
    omega (arith, few, n.behind, n.inside, c.requires.inside, c.ranges.made.fits)

pub bounds-text-place : goal.bounds-text-place
bounds-text-place c =
    let n = left-next c.args.text.now c.args.made c.args.bits c.args.count c.borders.after c.borders.later c.requires.few c.borders.auto.later-fits.fits c.borders.invariant.left c.borders-test.true in
    omega (arith, n.inside, c.requires.inside)

pub borders-smaller : goal.borders-smaller
borders-smaller c =
    (left-next c.args.text.now c.args.made c.args.bits c.args.count c.borders.after c.borders.later c.requires.few c.borders.auto.later-fits.fits c.borders.invariant.left c.borders-test.true).less

pub borders-preserved : goal.borders-preserved
borders-preserved c =
    let n = left-next c.args.text.now c.args.made c.args.bits c.args.count c.borders.after c.borders.later c.requires.few c.borders.auto.later-fits.fits c.borders.invariant.left c.borders-test.true in
    let place = c.args.made + trailing_zeros w64 c.borders.later in
    let upto : c.borders.after + (place - c.borders.after) ≡ place = omega (arith, n.behind) in
    let before = rw upto at (noted-none c.args.text.now c.borders.after (place - c.borders.after) c.args.most _ (omega (arith, upto, n.inside, c.requires.inside)) (λ k low high. n.none k low (omega (arith, high, upto))) c.borders.invariant.noted) in
    record {
      left = n.left;
      noted = noted-border c.args.text.now place c.args.most _ _ (omega (arith, n.inside, c.requires.inside)) n.border before c.push.ensures.places c.push.ensures.others
          (ap (λ n. c.borders.brackets + n) (c.from-brackets.ensures ∙ other (eqb (get_or c.args.text.now place 0) 45)));
    }
  where
    other : (b : Bool) → bool_byte (not b) ≡ cond b 0 1
    other true = refl
    other false = refl

pub returns : goal.returns
returns c =
    let left = c.borders.invariant.left in
    let more : c.borders.after + (c.args.made + c.args.count - c.borders.after) ≡ c.args.made + c.args.count = omega (arith, left.high) in
    rw more at (noted-none c.args.text.now c.borders.after (c.args.made + c.args.count - c.borders.after) c.args.most _ (omega (arith, left.high, c.requires.inside))
    (λ k low high. left-none c.args.text.now c.args.made c.args.bits c.args.count c.borders.after c.borders.later k left c.borders-test.false low (omega (arith, high, left.high)))
    c.borders.invariant.noted)
