-- Bytes taken from the beginning of a range.
use Rattle.std.proofs.Common.{◌≡◌, ℕ, ◌+◌, ◌-◌, ◌≤◌, Bool, true, false, cond, ltb, List, ◌++◌, length, refl, sym, ap, ◌∙◌, arith, take, drop, slice_range, Option, None, Some, Result, Ok, Err, IfOk}
use Rattle.std.specs.List.{copy_within}
use Rattle.std.specs.Io.{ReadsAtMost}
use Rattle.std.specs.Io.KnownBytes.{ReadConsumes, Consumes}
use Rattle.std.proofs.lemmas.Slice.{put_mid-paste}
use borrow.Rule.Slice.PartMut.{put_mid}
use Rattle.std.proofs.lemmas.Bool.{lt-leb, le-leb, ltb-true, ltb-false}
use Rattle.std.proofs.lemmas.List.{drop-take, drop-drop, length-take, length-drop, take-take}
use Rattle.std.proofs.lemmas.List.Edits.{take-paste}
use Rattle.std.proofs.Math.Seq.{paste, take-append-add}
use Rattle.flow_input.specs.Frames.{kept_of}

pub range-skip : (xs : List ℕ) (i j n : ℕ) → n ≤ length (slice_range xs i j) → slice_range xs (i + n) j ≡ drop n (slice_range xs i j)
range-skip xs i j n h =
    let le : n ≤ j - i = omega (arith, length-take (j - i) (drop i xs)) in
    let e : j - i ≡ n + (j - (i + n)) = omega arith in
    sym (ap (λ (m : ℕ). drop n (take m (drop i xs))) e ∙ drop-take n (j - (i + n)) (drop i xs) ∙ ap (λ (ys : List ℕ). take (j - (i + n)) ys) (drop-drop n i xs))

-- a range of a range
pub range-range : (xs : List ℕ) (i j b e : ℕ) → b ≤ e → e ≤ length (slice_range xs i j) → slice_range xs (i + b) (i + e) ≡ slice_range (slice_range xs i j) b e
range-range xs i j b e order h =
    let fits : e ≤ j - i = omega (arith, h, length-take (j - i) (drop i xs)) in
    let whole : j - i ≡ b + (j - i - b) = omega (arith, order, fits) in
    let len : i + e - (i + b) ≡ e - b = omega arith in
    sym (
    ap (λ (m : ℕ). take (e - b) (drop b (take m (drop i xs)))) whole
    ∙ ap (take (e - b)) (drop-take b (j - i - b) (drop i xs))
    ∙ take-take (e - b) (j - i - b) (drop b (drop i xs)) (omega (arith, order, fits))
    ∙ ap (take (e - b)) (drop-drop b i xs)
    ∙ ap (λ (m : ℕ). take m (drop (i + b) xs)) (sym len)
    )

pub range-length : (bs : List ℕ) (b e : ℕ) → e ≤ length bs → length (slice_range bs b e) ≡ e - b
range-length bs b e h = omega (arith, h, length-take (e - b) (drop b bs), length-drop b bs)

-- what was kept of a range that is shown, if it isn't too long
pub kept-range : (long : Bool) (n : ℕ) (range bs : List ℕ) → ltb 2000 n ≡ long → length bs ≡ n → range ≡ bs → cond long None (Some range) ≡ kept_of bs
kept-range true n range bs test len is = rw (lt-leb (length bs) 2000 (omega (arith, ltb-true 2000 n test, len))) refl
kept-range false n range bs test len is = rw (le-leb (length bs) 2000 (omega (arith, ltb-false 2000 n test, len))) (ap (λ (r : List ℕ). Some r) is)

-- bytes that were read after those at the beginning
pub filled-front : (front piece : List ℕ) (kept n : ℕ) → kept ≤ length front → n ≤ length piece → take (kept + n) (paste front kept piece (length piece)) ≡ take kept front ++ take n piece
filled-front front piece kept n h k =
    let len : length (take kept front) ≡ kept = omega (arith, length-take kept front, h) in
    sym (take-take (kept + n) (kept + length piece) (paste front kept piece (length piece)) (omega (arith, k)))
    ∙ ap (take (kept + n)) (take-paste front kept piece (length piece) h (omega arith))
    ∙ ap (λ (m : ℕ). take (m + n) (take kept front ++ take (length piece) piece)) (sym len)
    ∙ take-append-add (take kept front) (take (length piece) piece) n
    ∙ ap (λ (ys : List ℕ). take kept front ++ ys) (take-take n (length piece) piece k)

-- what a buffer holds once some of its bytes moved to the beginning, and others were read after
-- them
module _ (buffer front piece : List ℕ) (at end : ℕ) (moved : front ≡ copy_within buffer at end 0) (order : at ≤ end) (within : end ≤ length buffer) (room : end - at + 65536 ≤ length front) where
  moved-front : take (end - at) front ≡ slice_range buffer at end
  moved-front =
      let none : 0 + (end - at) ≡ end - at = omega arith in
      ap (λ (m : ℕ). take m front) (sym none) ∙ ap (take (0 + (end - at))) moved ∙ take-paste buffer 0 (drop at buffer) (end - at) (omega arith) (omega (arith, order, within, length-drop at buffer))

  pub part-length : length (take (end - at + 65536 - (end - at)) (drop (end - at) front)) ≡ 65536
  part-length = omega (arith, room, length-take (end - at + 65536 - (end - at)) (drop (end - at) front), length-drop (end - at) front)

  pub read-front : (n : ℕ) → length piece ≡ 65536 → n ≤ length piece → slice_range (put_mid (end - at) (end - at + 65536 - (end - at)) front piece) 0 (end - at + n) ≡ slice_range buffer at end ++ take n piece
  read-front n wide h =
      let all : end - at + n - 0 ≡ end - at + n = omega arith in
      let whole : put_mid (end - at) (end - at + 65536 - (end - at)) front piece ≡ paste front (end - at) piece (length piece) = put_mid-paste (end - at) (end - at + 65536 - (end - at)) front piece piece (length piece) refl (omega (arith, wide)) refl in
      ap (λ (m : ℕ). take m (put_mid (end - at) (end - at + 65536 - (end - at)) front piece)) all
      ∙ ap (λ (bs : List ℕ). take (end - at + n) bs) whole ∙ filled-front front piece (end - at) n (omega (arith, room)) h ∙ ap (λ (bs : List ℕ). bs ++ take n piece) moved-front

  pub came-after : {E : Type 0} (r : Result ℕ E) (before after : Option (List ℕ)) → length piece ≡ length (take (end - at + 65536 - (end - at)) (drop (end - at) front)) → ReadsAtMost r piece → ReadConsumes before after r piece
      → IfOk r (λ n. (came : List ℕ) × Consumes before after came × (length came ≡ n) × (slice_range (put_mid (end - at) (end - at + 65536 - (end - at)) front piece) 0 (end - at + n) ≡ slice_range buffer at end ++ came))
  came-after (Ok n) before after wide bound bytes = (take n piece, bytes.0, omega (arith, bound.0, length-take n piece), read-front n (wide ∙ part-length) bound.0)
  came-after (Err e) before after wide bound bytes = tt
