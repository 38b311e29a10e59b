use Rattle.std.proofs.Common.{◌≡◌, ℕ, ◌-◌, List, length, drop, replicate, ap, ◌∙◌, arith}
use Rattle.std.proofs.lemmas.List.{length-append, length-drop, length-replicate}
use Rattle.fpl_text.proofs.TextLemmas.{drop-blanks, drop-front}
use Rattle.fpl_text.proofs.text.Text.new.Goals as goal

pub invariant_of-result : goal.invariant_of-result
invariant_of-result g c =
    let bytes = c.args.bytes.now in
    let rest : List ℕ = drop (length bytes) (replicate g.row.N 0) in
    let behind : length rest ≡ g.row.N - length bytes = length-drop (length bytes) (replicate {A = ℕ} g.row.N 0) ∙ ap (λ n. n - length bytes) (length-replicate {A = ℕ} g.row.N 0) in (
      c.requires.fits,
      ap length c.put_first.ensures ∙ length-append bytes rest ∙ omega (arith, behind, c.requires.fits),
      ap (λ text. drop (length bytes) text) c.put_first.ensures ∙ drop-front bytes rest ∙ drop-blanks {A = ℕ} 0 g.row.N (length bytes),
    )
