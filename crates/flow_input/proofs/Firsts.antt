-- The first frame of the bytes that are there.
use Rattle.std.proofs.Common.{◌≡◌, ℕ, inl, inr, Bool, true, false, cond, List, [], ◌∷◌, ◌++◌, refl, sym, ap, ◌∙◌, Option, Some, IfSome, IsTrue, eqb, ◌+◌, length, length-append, arith}
use Rattle.std.proofs.lemmas.Bool.{ne_eqb}
use Rattle.flow_input.specs.Frames.{Cut, until, since, closed, order_cut, cut, is_parenthesis, ends_order}
use Rattle.flow_input.specs.Reader.{InputView, NoneStops, BeginsWithStop, BeginsWithOther, Took, TakesIf, Finished, Unfinished}
use Rattle.flow_input.proofs.Runs.{since-run, until-run}

-- what a message is cut to, once the bytes up to a bracket were taken
message-is : (all run rest : List ℕ) → all ≡ run ++ rest → NoneStops is_parenthesis run → BeginsWithStop is_parenthesis rest → cut (40 ∷ all) ≡ Some (closed run rest)
message-is all run rest e none at =
    ap (λ (bs : List ℕ). Some (closed bs (since is_parenthesis all))) (ap (until is_parenthesis) e ∙ until-run is_parenthesis run rest none at)
    ∙ ap (λ (bs : List ℕ). Some (closed run bs)) (ap (since is_parenthesis) e ∙ since-run is_parenthesis run rest none at)

-- and an order, once those up to its end were
order-is : (first : ℕ) (all run rest : List ℕ) → eqb first 40 ≡ false → all ≡ run ++ rest → NoneStops ends_order run → BeginsWithStop ends_order rest → cut (first ∷ all) ≡ Some (order_cut (first ∷ run) rest)
order-is first all run rest o e none at =
    ap (λ (b : Bool). Some (cond {A = Cut} b (closed (until is_parenthesis all) (since is_parenthesis all)) (order_cut (first ∷ until ends_order all) (since ends_order all)))) o
    ∙ ap (λ (bs : List ℕ). Some (order_cut (first ∷ bs) (since ends_order all))) (ap (until ends_order) e ∙ until-run ends_order run rest none at)
    ∙ ap (λ (bs : List ℕ). Some (order_cut (first ∷ run) bs)) (ap (since ends_order) e ∙ since-run ends_order run rest none at)

message-other : (body : List ℕ) (b : ℕ) (rest : List ℕ) → (b ≡ 41 → ⊥) → closed body (b ∷ rest) ≡ record { frame = 40 ∷ body; rest = b ∷ rest; ended = true }
message-other body b rest ne =
    ap (λ (t : Bool). cond {A = Cut} t (record { frame = 40 ∷ body ++ 41 ∷ []; rest = rest; ended = true }) (record { frame = 40 ∷ body; rest = b ∷ rest; ended = true })) (ne_eqb b 41 ne)

not-false : (b : Bool) → IsTrue b → b ≡ false → ⊥
not-false b h e = cc

-- bytes that came were taken or are unread
pub lengths : {stops : ℕ → Bool} (old new : InputView) (before after : Option (List ℕ)) (t : Took stops old new before after) → new.taken + length new.unread ≡ old.taken + length old.unread + length t.came
lengths old new before after t = omega (arith, t.count, ap length t.whole, length-append old.unread t.came, length-append t.run new.unread)

module _ (old mid new : InputView) (before after : Option (List ℕ)) where
  -- a message that was taken with its closing bracket
  message-closed : Took is_parenthesis old mid before after → BeginsWithStop is_parenthesis mid.unread → mid.unread ≡ 41 ∷ new.unread → new.taken ≡ mid.taken + 1 → Finished 40 old new before after
  message-closed t at e one =
      record {
        came = t.came;
        consumed = t.consumed;
        whole = closed t.run (41 ∷ new.unread);
        is = message-is (old.unread ++ t.came) t.run mid.unread t.whole t.none at ∙ ap (λ (bs : List ℕ). Some (closed t.run bs)) e;
        rest = refl;
        seen = λ _. refl;
        count = omega (arith, t.count, one, lengths old mid before after t, ap length e);
      }

  -- and one that ends before another byte, or at the end
  message-open : (u : List ℕ) → Took is_parenthesis old mid before after → BeginsWithStop is_parenthesis mid.unread → (mid.unread ≡ [] → IsTrue mid.ended) → mid.unread ≡ u → BeginsWithOther 41 u → new ≡ mid
      → Finished 40 old new before after
  message-open [] t at end e other same =
      record {
        came = t.came;
        consumed = t.consumed;
        whole = closed t.run [];
        is = message-is (old.unread ++ t.came) t.run mid.unread t.whole t.none at ∙ ap (λ (bs : List ℕ). Some (closed t.run bs)) e;
        rest = ap (λ (a : InputView). a.unread) same ∙ e;
        seen = λ f. absurd (not-false mid.ended (end e) (sym (ap (λ (a : InputView). a.ended) same) ∙ f));
        count = ap (λ (a : InputView). a.taken + length a.unread) same ∙ lengths old mid before after t;
      }
  message-open (b ∷ rest) t at end e other same =
      record {
        came = t.came;
        consumed = t.consumed;
        whole = record { frame = 40 ∷ t.run; rest = b ∷ rest; ended = true };
        is = message-is (old.unread ++ t.came) t.run mid.unread t.whole t.none at ∙ ap (λ (bs : List ℕ). Some (closed t.run bs)) e ∙ ap (λ (c : Cut). Some c) (message-other t.run b rest other);
        rest = ap (λ (a : InputView). a.unread) same ∙ e;
        seen = λ _. refl;
        count = ap (λ (a : InputView). a.taken + length a.unread) same ∙ lengths old mid before after t;
      }

  pub Finished-message : Took is_parenthesis old mid before after → BeginsWithStop is_parenthesis mid.unread → (mid.unread ≡ [] → IsTrue mid.ended) → TakesIf 41 mid new → Finished 40 old new before after
  Finished-message t at end (inl h) = message-closed t at h.0 h.1
  Finished-message t at end (inr h) = message-open mid.unread t at end refl h.0 h.1

module _ (first : ℕ) (old new : InputView) (before after : Option (List ℕ)) (other : first ≡ 40 → ⊥) (t : Took ends_order old new before after) where
  order-ends : (u : List ℕ) → BeginsWithStop ends_order new.unread → (new.unread ≡ [] → IsTrue new.ended) → new.unread ≡ u → Finished first old new before after
  order-ends [] at end e =
      record {
        came = t.came;
        consumed = t.consumed;
        whole = order_cut (first ∷ t.run) [];
        is = order-is first (old.unread ++ t.came) t.run new.unread (ne_eqb first 40 other) t.whole t.none at ∙ ap (λ (bs : List ℕ). Some (order_cut (first ∷ t.run) bs)) e;
        rest = e;
        seen = λ f. absurd (not-false new.ended (end e) f);
        count = lengths old new before after t;
      }
  order-ends (b ∷ rest) at end e =
      record {
        came = t.came;
        consumed = t.consumed;
        whole = order_cut (first ∷ t.run) (b ∷ rest);
        is = order-is first (old.unread ++ t.came) t.run new.unread (ne_eqb first 40 other) t.whole t.none at ∙ ap (λ (bs : List ℕ). Some (order_cut (first ∷ t.run) bs)) e;
        rest = e;
        seen = λ _. refl;
        count = lengths old new before after t;
      }

  pub Finished-order : BeginsWithStop ends_order new.unread → (new.unread ≡ [] → IsTrue new.ended) → Finished first old new before after
  Finished-order at end = order-ends new.unread at end refl

if_some : (o : Option Cut) (c : Cut) → o ≡ Some c → c.ended ≡ false → IfSome o (λ d. d.ended ≡ false)
if_some o c e h = rw e h

-- a message that the reader's failure cut off, and an order
pub Unfinished-message : (old mid : InputView) (before after : Option (List ℕ)) → mid.unread ≡ [] → Took is_parenthesis old mid before after → Unfinished 40 old before after
Unfinished-message old mid before after e t =
    let at : BeginsWithStop is_parenthesis mid.unread = rw e tt in (
      t.came,
      t.consumed,
      if_some (cut (40 ∷ (old.unread ++ t.came))) (closed t.run []) (message-is (old.unread ++ t.came) t.run mid.unread t.whole t.none at ∙ ap (λ (bs : List ℕ). Some (closed t.run bs)) e) refl,
    )

pub Unfinished-order : (first : ℕ) (old mid : InputView) (before after : Option (List ℕ)) → (first ≡ 40 → ⊥) → mid.unread ≡ [] → Took ends_order old mid before after → Unfinished first old before after
Unfinished-order first old mid before after other e t =
    let at : BeginsWithStop ends_order mid.unread = rw e tt in (
      t.came,
      t.consumed,
      if_some (cut (first ∷ (old.unread ++ t.came))) (order_cut (first ∷ t.run) [])
          (order-is first (old.unread ++ t.came) t.run mid.unread (ne_eqb first 40 other) t.whole t.none at ∙ ap (λ (bs : List ℕ). Some (order_cut (first ∷ t.run) bs)) e) refl,
    )
