use Rattle.std.proofs.Common.{◌++◌, ◌∷◌, [], length, drop, ap, ◌∙◌}
use Rattle.std.proofs.Math.ListN.{set}
use Rattle.fpl_items.proofs.Notes.{name-kept}
use Rattle.fpl_items.proofs.estimate.name_by_bytes.Goals as goal

pub returns : goal.returns
returns c =
    ap (λ front. set (front ++ drop (length c.args.place.now) (0 ∷ 0 ∷ 0 ∷ 0 ∷ 0 ∷ 0 ∷ 0 ∷ 0 ∷ 0 ∷ 0 ∷ 0 ∷ 0 ∷ [])) 11 (length c.args.place.now)) c.copy_from_slice.ensures.after
    ∙ name-kept c.args.place.now c.requires
