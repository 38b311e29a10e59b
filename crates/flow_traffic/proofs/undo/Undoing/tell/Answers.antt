use Rattle.std.proofs.Common.{◌≡◌, ◌<◌, ℕ, List, map, ap}
use Rattle.std.specs.List.{AllByRecursion}
use Rattle.std.proofs.lemmas.List.Elements.{recursion_from_All}
use Rattle.flow_regulations.specs.Listing.{regulation_of}
use Rattle.flow_traffic.specs.Undoing.{UndoingView}
use Rattle.flow_traffic.proofs.ToldAgain.{told-undone}
use Rattle.flow_traffic.proofs.Noted.{told-were}
use Rattle.flow_traffic.proofs.undo.Undoing.tell.Goals as goal

pub returns-clause-again : goal.returns-clause-again
returns-clause-again g c =
    let changed : List ℕ = c.args.self.now.changed in
    let same : c.self.inside.changed.items ≡ changed = ap (λ (r : UndoingView). r.changed) c.self.view_is in
    let some : AllByRecursion (λ m. 0 < m) changed = recursion_from_All (λ m. 0 < m) changed (λ k d h. (c.requires.numbers k d h).0) in
    let told_is = rw (c.deref.ensures.value, c.deref-2.ensures.value, same) at c.note_told.ensures.noted in
    told-undone c.args.plans.now.taxi (map regulation_of c.args.regulations.now.lists) c.args.plans.now.plans c.args.notified.now.told.items c.tell.new.told.items changed c.note_told.new.noted.items
    c.tell.ensures.told c.requires.each c.tell.ensures.each c.requires.quiet told_is some

pub returns-clause-were : goal.returns-clause-were
returns-clause-were g c =
    let same : c.self.inside.changed.items ≡ c.args.self.now.changed = ap (λ (r : UndoingView). r.changed) c.self.view_is in
    told-were c.args.self.now.changed c.args.notified.now.told.items c.note_told.new.noted.items
    (rw (c.deref.ensures.value, c.deref-2.ensures.value, same) at c.note_told.ensures.noted)
