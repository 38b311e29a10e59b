-- Bytes that were written in several calls.
use Rattle.std.proofs.Common.{◌≡◌, ℕ, ◌+◌, ◌<◌, List, [], ◌∷◌, ◌++◌, length, refl, sym, ap, subst, ◌∙◌, arith, take, drop, Option, Some, None, append_assoc, zero, suc, get_or, Result, Ok, Err}
use Rattle.std.specs.List.{flat_map}
use Rattle.std.specs.Result.{IsErr}
use Rattle.std.proofs.Math.Seq.{take-add}
use Rattle.std.proofs.lemmas.Bool.{false≢true}
use Rattle.std.proofs.lemmas.List.{take-append-drop}
use Rattle.std.specs.Io.KnownBytes.{Keeps, Appends}
use Rattle.flow_input.specs.Source.{counted_up}
use Rattle.flow_input.specs.Writes.{AppendsFront, Writes}
use Rattle.flow_input.specs.declared.counted.Counted.{Counted}

pub Appends-none : (old : Option (List ℕ)) → Appends old old []
Appends-none None = tt
Appends-none (Some xs) = sym (append-nil' xs)
  where
    append-nil' : (xs : List ℕ) → xs ++ [] ≡ xs
    append-nil' [] = refl
    append-nil' (x ∷ xs) = ap (λ (ys : List ℕ). x ∷ ys) (append-nil' xs)

pub Appends-both : (old mid new : Option (List ℕ)) (xs ys zs : List ℕ) → Appends old mid xs → Appends mid new ys → xs ++ ys ≡ zs → Appends old new zs
Appends-both None mid new xs ys zs a b e = tt
Appends-both (Some o) None new xs ys zs a b e = absurd a
Appends-both (Some o) (Some m) None xs ys zs a b e = absurd b
Appends-both (Some o) (Some m) (Some n) xs ys zs a b e = b ∙ ap (λ (q : List ℕ). q ++ ys) a ∙ append_assoc o xs ys ∙ ap (λ (q : List ℕ). o ++ q) e

-- one more call wrote the next bytes
pub Appends-more : (old mid new : Option (List ℕ)) (bytes : List ℕ) (i n : ℕ) → Appends old mid (take i bytes) → Appends mid new (take n (drop i bytes)) → Appends old new (take (i + n) bytes)
Appends-more old mid new bytes i n a b = Appends-both old mid new (take i bytes) (take n (drop i bytes)) (take (i + n) bytes) a b (sym (take-add i n bytes))

pub AppendsFront-both : (old mid new : Option (List ℕ)) (xs ys zs : List ℕ) → Appends old mid xs → AppendsFront mid new ys → xs ++ ys ≡ zs → AppendsFront old new zs
AppendsFront-both None mid new xs ys zs a b e = tt
AppendsFront-both (Some o) None new xs ys zs a b e = absurd a
AppendsFront-both (Some o) (Some m) None xs ys zs a b e = absurd b
AppendsFront-both (Some o) (Some m) (Some n) xs ys zs a b e =
    (xs ++ b.0, b.1, sym e ∙ ap (λ (q : List ℕ). xs ++ q) b.2 ∙ sym (append_assoc xs b.0 b.1), b.3 ∙ ap (λ (q : List ℕ). q ++ b.0) a ∙ append_assoc o xs b.0)

-- what was written until a call failed
pub AppendsFront-stop : (old mid new : Option (List ℕ)) (bytes : List ℕ) (i : ℕ) → Appends old mid (take i bytes) → Keeps mid new → AppendsFront old new bytes
AppendsFront-stop None mid new bytes i a k = tt
AppendsFront-stop (Some o) None new bytes i a k = absurd a
AppendsFront-stop (Some o) (Some m) None bytes i a k = absurd k
AppendsFront-stop (Some o) (Some m) (Some n) bytes i a k = (take i bytes, drop i bytes, sym (take-append-drop i bytes), k ∙ a)

-- a prefix of some bytes is a prefix of more
pub AppendsFront-more : (old new : Option (List ℕ)) (bytes more all : List ℕ) → AppendsFront old new bytes → bytes ++ more ≡ all → AppendsFront old new all
AppendsFront-more None new bytes more all a e = tt
AppendsFront-more (Some o) None bytes more all a e = absurd a
AppendsFront-more (Some o) (Some n) bytes more all a e = (a.0, a.1 ++ more, sym e ∙ ap (λ (q : List ℕ). q ++ more) a.2 ∙ append_assoc a.0 a.1 more, a.3)

pub flat_map-at : {X : Type 0} (f : X → List ℕ) (xs : List X) (i : ℕ) (d : X) → i < length xs → flat_map f (take i xs) ++ (f (get_or xs i d) ++ flat_map f (drop (suc i) xs)) ≡ flat_map f xs
flat_map-at f [] i d h = absurd (omega arith)
flat_map-at f (y ∷ ys) zero d h = refl
flat_map-at f (y ∷ ys) (suc i) d h =
    let h' : i < length ys = omega arith in
    append_assoc (f y) (flat_map f (take i ys)) (f (get_or ys i d) ++ flat_map f (drop (suc i) ys)) ∙ ap (λ (q : List ℕ). f y ++ q) (flat_map-at f ys i d h')

-- nothing was written yet
pub Writes-none : {D T E : Type 0} (contents : D → Option (List ℕ)) (x : T) (writer : Counted D) → Writes {E = E} contents (Ok x) writer writer []
Writes-none contents x writer = record {
  ok = Appends-none (contents writer.device);
  err = tt;
  no_failure = refl;
  failed = tt;
}

-- one text was written, and then another
pub Writes-then : {D T E U F : Type 0} {contents : D → Option (List ℕ)} {x : T} {old mid new : Counted D} {xs ys : List ℕ} (result : Result U F) (all : List ℕ)
    → Writes {E = E} contents (Ok x) old mid xs → Writes contents result mid new ys → xs ++ ys ≡ all → Writes contents result old new all
Writes-then {contents = contents} {old = old} {mid = mid} {new = new} {xs = xs} {ys = ys} (Ok y) all a b e = record {
  ok = Appends-both (contents old.device) (contents mid.device) (contents new.device) xs ys all a.ok b.ok e;
  err = tt;
  no_failure = b.no_failure ∙ a.no_failure;
  failed = tt;
}
Writes-then {contents = contents} {old = old} {mid = mid} {new = new} {xs = xs} {ys = ys} (Err f) all a b e = record {
  ok = tt;
  err = AppendsFront-both (contents old.device) (contents mid.device) (contents new.device) xs ys all a.ok b.err e;
  no_failure = tt;
  failed = b.failed ∙ ap counted_up a.no_failure;
}

-- writing a text has stopped with a fault, and so has writing all, which begins with it
pub Writes-stopped : {D T E U F : Type 0} {contents : D → Option (List ℕ)} {f : E} {old new : Counted D} {xs : List ℕ} (result : Result U F) (more all : List ℕ)
    → IsErr result → Writes {T = T} contents (Err f) old new xs → xs ++ more ≡ all → Writes contents result old new all
Writes-stopped (Ok y) more all is a e = absurd (false≢true is)
Writes-stopped {contents = contents} {old = old} {new = new} {xs = xs} (Err g) more all is a e = record {
  ok = tt;
  err = AppendsFront-more (contents old.device) (contents new.device) xs more all a.err e;
  no_failure = tt;
  failed = a.failed;
}

-- the same text
pub Writes-same : {D T E : Type 0} {contents : D → Option (List ℕ)} {result : Result T E} {old new : Counted D} {xs ys : List ℕ} → Writes contents result old new xs → xs ≡ ys → Writes contents result old new ys
Writes-same {contents = contents} {result = result} {old = old} {new = new} a e = subst (λ (q : List ℕ). Writes contents result old new q) e a

-- a text was written whole, as another call returns it
pub Writes-done : {D T E U F : Type 0} {contents : D → Option (List ℕ)} {x : T} {old new : Counted D} {xs ys : List ℕ} (y : U) → Writes {E = E} contents (Ok x) old new xs → xs ≡ ys → Writes {E = F} contents (Ok y) old new ys
Writes-done {contents = contents} {old = old} {new = new} y a e = record {
  ok = subst (λ (q : List ℕ). Appends (contents old.device) (contents new.device) q) e a.ok;
  err = tt;
  no_failure = a.no_failure;
  failed = tt;
}
