use Rattle.std.proofs.Common.{◌≡◌, ◌∙◌, ◌-◌, ◌++◌, List, ℕ, take, drop, replicate, take-append-drop, ap, sym}
use Rattle.std.specs.Cmp.{both_ways}
use Rattle.std.specs.Str.{bytes_eq}
use Rattle.std.proofs.lemmas.Slice.Eq.{bytes_eq-Decides}
use Rattle.fpl_text.proofs.text.Text.is.Goals as goal

-- both texts are followed by zeros
pub returns-then-self-other : goal.returns-then-self-other
returns-then-self-other g c =
    let s = c.self.inside in
    let o = c.other.inside in
    let same : s.len ≡ o.len = c.if-self-other.true in
    let bytes = bytes_eq-Decides s.bytes o.bytes in
    let texts = bytes_eq-Decides c.args.self.now c.args.other.now in
    both_ways c.eq.result (bytes_eq c.args.self.now c.args.other.now)
    (λ e. texts.1 (sym c.self.view_is ∙ ap (λ (n : ℕ). take n s.bytes) same ∙ ap (λ (bs : List ℕ). take o.len bs) (bytes.0 (sym c.eq.ensures ∙ e)) ∙ c.other.view_is))
    (λ e. c.eq.ensures ∙ bytes.1 (sym (take-append-drop s.len s.bytes)
    ∙ ap (λ (bs : List ℕ). bs ++ drop s.len s.bytes) (c.self.view_is ∙ texts.0 e ∙ sym c.other.view_is)
    ∙ ap (λ (bs : List ℕ). take o.len o.bytes ++ bs) (c.self.invariant.2 ∙ ap (λ (n : ℕ). replicate (g.row.N - n) 0) same ∙ sym c.other.invariant.2)
    ∙ take-append-drop o.len o.bytes))
