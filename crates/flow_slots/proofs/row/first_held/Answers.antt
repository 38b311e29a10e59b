use Rattle.std.proofs.Common.{◌≡◌, ◌<◌, ◌≤◌, ◌+◌, ◌-◌, ◌⊎◌, inl, inr, ℕ, List, Option, None, length, length-drop, get_or, take, drop, sym, ap, ◌∙◌, arith}
use Rattle.std.specs.List.{All}
use Rattle.std.proofs.lemmas.Bool.{cases_lt}
use Rattle.std.proofs.lemmas.List.{get_or-take, get_or-drop, length-take}
use Rattle.flow_slots.proofs.row.first_held.Goals as goal

-- no slot precedes the end of a chunk that has none
passed-more : (from i n end : ℕ) (slots : List (Option ℕ)) → end ≡ i + n → end ≤ length slots → All (λ slot. slot ≡ None) (take n (drop i slots)) → ((k : ℕ) → from ≤ k → k < i → get_or slots k None ≡ None)
    → (k : ℕ) → from ≤ k → k < end → get_or slots k None ≡ None
passed-more from i n end slots is all none before k low high = by (cases_lt k i) where
  by : (k < i) ⊎ (i ≤ k) → get_or slots k None ≡ None
  by (inl below) = before k low below
  by (inr above) =
      let at : k ≡ i + (k - i) = omega (arith, above) in
      let inside : k - i < n = omega (arith, is, above, high) in
      let len : k - i < length (take n (drop i slots)) = omega (arith, is, all, inside, length-take n (drop i slots), length-drop i slots) in
      ap (λ j. get_or slots j None) at ∙ (sym (get_or-drop i slots (k - i) None) ∙ (sym (get_or-take n (drop i slots) (k - i) None inside) ∙ none (k - i) None len))

pub loop-chunk-preserved : goal.loop-chunk-preserved
loop-chunk-preserved c =
    let s = c.loop-chunk in
    let slots = c.args.slots.now in
    record {
      from = omega (arith, s.invariant.from);
      within = c.loop-chunk-test.true;
      passed = passed-more c.args.from s.chunk (s.chunk + 16 - s.chunk) (s.chunk + 16) slots (omega arith) c.loop-chunk-test.true (c.are_none.ensures.0 c.if-are_none.true) s.invariant.passed;
    }
