-- Bytes that are taken while pieces come.
use Rattle.std.proofs.Common.{◌≡◌, ℕ, ◌+◌, ◌≤◌, Bool, List, [], ◌∷◌, ◌++◌, length, sym, ap, ◌∙◌, subst, arith, Option, IsTrue, append_assoc, append-nil, length-append, take, drop}
use Rattle.std.proofs.lemmas.List.{take-append-drop, length-take}
use Rattle.std.proofs.KnownBytes.{Consumes-nil, Consumes-trans}
use Rattle.flow_input.specs.Reader.{InputView, Agrees, CameTooMuch, Filled, NoneStops, TookRun, Took}
use Rattle.flow_input.proofs.Runs.{NoneStops-append}

-- nothing was taken yet
pub Took-start : (stops : ℕ → Bool) (old : InputView) (before : Option (List ℕ)) → Took stops old old before before
Took-start stops old before =
    record { came = []; consumed = Consumes-nil before; run = []; whole = append-nil old.unread; none = tt; count = omega arith }

-- a piece came, and a run of it was taken
pub Took-more : (stops : ℕ → Bool) (old mid filled new : InputView) (before during after : Option (List ℕ))
    → Took stops old mid before during → Filled mid filled during after → filled.taken ≡ mid.taken → TookRun stops filled new → Took stops old new before after
Took-more stops old mid filled new before during after t f same r =
    record {
      came = t.came ++ f.0;
      consumed = Consumes-trans before during after t.came f.0 t.consumed f.1;
      run = t.run ++ r.run;
      whole = sym (append_assoc old.unread t.came f.0) ∙ ap (λ (bs : List ℕ). bs ++ f.0) t.whole ∙ append_assoc t.run mid.unread f.0
          ∙ ap (λ (bs : List ℕ). t.run ++ bs) (sym f.2 ∙ r.whole) ∙ sym (append_assoc t.run r.run new.unread);
      none = NoneStops-append stops t.run r.run t.none r.none;
      count = omega (arith, r.count, t.count, same, length-append t.run r.run);
    }

-- bytes were read meanwhile
pub Took-much : (stops : ℕ → Bool) (old mid : InputView) (before during after : Option (List ℕ))
    → Took stops old mid before during → CameTooMuch mid during after → CameTooMuch old before after
Took-much stops old mid before during after t m =
    let whole : length old.unread + length t.came ≡ length t.run + length mid.unread = omega (arith, length-append old.unread t.came, length-append t.run mid.unread, ap length t.whole) in (
      t.came ++ m.0,
      Consumes-trans before during after t.came m.0 t.consumed m.1,
      omega (arith, m.2, t.count, length-append t.came m.0, whole),
    )

-- what is unread and empty leaves the reader at its end
pub Agrees-taken : (stops : ℕ → Bool) (old new : InputView) (remaining : Option (List ℕ)) → Agrees old remaining → TookRun stops old new → new.ended ≡ old.ended → Agrees new remaining
Agrees-taken stops old new remaining agrees r same e =
    let was = agrees (subst IsTrue same e) in
    (second r.run new.unread (sym r.whole ∙ was.0), was.1)
  where
    second : (xs ys : List ℕ) → xs ++ ys ≡ [] → ys ≡ []
    second [] ys h = h
    second (x ∷ xs) ys h = absurd (cc)

-- a run of this length was taken
pub TookRun-of : (stops : ℕ → Bool) (old new : InputView) (count : ℕ)
    → NoneStops stops (take count old.unread) → new.unread ≡ drop count old.unread → new.taken ≡ old.taken + count → count ≤ length old.unread → TookRun stops old new
TookRun-of stops old new count none rest taken within =
    record {
      run = take count old.unread;
      whole = sym (ap (λ (bs : List ℕ). take count old.unread ++ bs) rest ∙ take-append-drop count old.unread);
      none = none;
      count = omega (arith, taken, length-take count old.unread);
    }
