-- Frames in one buffer, one after the other.
use Rattle.std.proofs.Common.{◌≡◌, ◌≤◌, ◌+◌, ℕ, zero, suc, List, [], ◌∷◌, ◌++◌, length, length-append, take, drop, slice_get, Some, refl, sym, ap, ◌∙◌, subst, arith}
use Rattle.std.proofs.lemmas.List.{take-append-le, drop-append-le, length-drop, drop-drop}
use Rattle.std.proofs.Math.Seq.{take-length}
use Rattle.std.specs.List.{AllByRecursion}
use Rattle.fpl_message.specs.Filings.{FilingView}
use Rattle.fpl_message.specs.declared.filing.TheConstants.{MAX_BYTES}
use Rattle.flow_input.specs.NextFrame.{second}
use Rattle.flow_input.specs.Queues.{queued, total, IsQueue}

pub length-queued : (ns bs : List ℕ) → length (queued ns bs) ≡ length ns
length-queued [] bs = refl
length-queued (n ∷ ns) bs = ap suc (length-queued ns (drop n bs))

total-push : (ns : List ℕ) (n : ℕ) → total (ns ++ n ∷ []) ≡ total ns + n
total-push [] n = omega arith
total-push (m ∷ ns) n = omega (arith, total-push ns n)

few-push : (ns : List ℕ) (n : ℕ) → AllByRecursion (λ (m : ℕ). m ≤ MAX_BYTES) ns → n ≤ MAX_BYTES → AllByRecursion (λ (m : ℕ). m ≤ MAX_BYTES) (ns ++ n ∷ [])
few-push [] n all few = (few, tt)
few-push (m ∷ ns) n all few = (all.0, few-push ns n all.1 few)

queued-push : (ns bs ts : List ℕ) → total ns ≡ length bs → queued (ns ++ length ts ∷ []) (bs ++ ts) ≡ queued ns bs ++ second ts ∷ []
queued-push [] [] ts fits = ap (λ (xs : List ℕ). second xs ∷ []) (take-length ts)
queued-push [] (b ∷ bs) ts fits = absurd (omega (arith, fits))
queued-push (m ∷ ns) bs ts fits =
    let within : m ≤ length bs = omega (arith, fits) in
    let rest : total ns ≡ length (drop m bs) = omega (arith, fits, length-drop m bs) in
    ap (λ (xs : List ℕ). second xs ∷ queued (ns ++ length ts ∷ []) (drop m (bs ++ ts))) (take-append-le m bs ts within)
    ∙ ap (λ (xs : List ℕ). second (take m bs) ∷ queued (ns ++ length ts ∷ []) xs) (drop-append-le m bs ts within)
    ∙ ap (λ (fs : List FilingView). second (take m bs) ∷ fs) (queued-push ns (drop m bs) ts rest)

-- a frame is appended
pub pushed : (lens bytes ts : List ℕ) (removed from : ℕ) → IsQueue lens bytes removed from → length ts ≤ MAX_BYTES
    → IsQueue (lens ++ length ts ∷ []) (bytes ++ ts) removed from
pushed lens bytes ts removed from is few =
    let left : drop removed (lens ++ length ts ∷ []) ≡ drop removed lens ++ length ts ∷ [] = drop-append-le removed lens (length ts ∷ []) is.some in
    record {
      some = omega (arith, is.some, length-append lens (length ts ∷ []));
      fits = omega (arith, is.fits, ap total left, total-push (drop removed lens) (length ts), length-append bytes ts);
      few = subst (λ (ns : List ℕ). AllByRecursion (λ (n : ℕ). n ≤ MAX_BYTES) ns) (sym left) (few-push (drop removed lens) (length ts) is.few few);
    }

pub pushed-queued : (lens bytes ts : List ℕ) (removed from : ℕ) → IsQueue lens bytes removed from
    → queued (drop removed (lens ++ length ts ∷ [])) (drop from (bytes ++ ts)) ≡ queued (drop removed lens) (drop from bytes) ++ second ts ∷ []
pushed-queued lens bytes ts removed from is =
    let within : from ≤ length bytes = omega (arith, is.fits) in
    ap (λ (ns : List ℕ). queued ns (drop from (bytes ++ ts))) (drop-append-le removed lens (length ts ∷ []) is.some)
    ∙ ap (λ (bs : List ℕ). queued (drop removed lens ++ length ts ∷ []) bs) (drop-append-le from bytes ts within)
    ∙ queued-push (drop removed lens) (drop from bytes) ts (omega (arith, is.fits, length-drop from bytes))

-- the lengths from an index on begin with that at the index
drop-at : (ns : List ℕ) (i n : ℕ) → slice_get ns i ≡ Some n → drop i ns ≡ n ∷ drop (suc i) ns
drop-at [] i n is = absurd (cc)
drop-at (m ∷ ns) zero n is = ap (λ (x : ℕ). x ∷ ns) (let same : m ≡ n = cc in same)
drop-at (m ∷ ns) (suc i) n is = drop-at ns i n is

-- what is known of the first frame of a queue, of this length
pub record IsFirst (lens bytes : List ℕ) (removed from n : ℕ) : Type 0 where
  pub few : n ≤ MAX_BYTES
  pub within : from + n ≤ length bytes
  pub frame : take 1 (queued (drop removed lens) (drop from bytes)) ≡ second (take n (drop from bytes)) ∷ []
  pub rest : queued (drop (removed + 1) lens) (drop (from + n) bytes) ≡ drop 1 (queued (drop removed lens) (drop from bytes))
  pub next : IsQueue lens bytes (removed + 1) (from + n)

pub is-first : (lens bytes : List ℕ) (removed from n : ℕ) → IsQueue lens bytes removed from → slice_get lens removed ≡ Some n → IsFirst lens bytes removed from n
is-first lens bytes removed from n is got =
    let one : removed + 1 ≡ suc removed = omega arith in
    let left : drop removed lens ≡ n ∷ drop (removed + 1) lens = drop-at lens removed n got ∙ ap (λ (i : ℕ). n ∷ drop i lens) (sym one) in
    let few : AllByRecursion (λ (m : ℕ). m ≤ MAX_BYTES) (n ∷ drop (removed + 1) lens) = subst (λ (ns : List ℕ). AllByRecursion (λ (m : ℕ). m ≤ MAX_BYTES) ns) left is.few in
    record {
      few = few.0;
      within = omega (arith, is.fits, ap total left);
      frame = ap (λ (ns : List ℕ). take 1 (queued ns (drop from bytes))) left;
      rest = ap (λ (bs : List ℕ). queued (drop (removed + 1) lens) bs) (sym (drop-drop n from bytes)) ∙ sym (ap (λ (ns : List ℕ). drop 1 (queued ns (drop from bytes))) left);
      next = record {
        some = omega (arith, is.some, length-drop removed lens, ap length left);
        fits = omega (arith, is.fits, ap total left);
        few = few.1;
      };
    }
