use Rattle.std.proofs.Common.{◌≡◌, ℕ, true, false, List, Option, Some, None, ap, subst, ◌∙◌}
use Rattle.std.specs.Prelude.{IsSome}
use Rattle.std.specs.Option.{option_map_or, is_some}
use Rattle.std.proofs.lemmas.Result.{on_ok_weaker}
use Rattle.std.proofs.lemmas.List.Elements.{All-weaker}
use Rattle.flow_slots.specs.Lineup.{Lineup, fixed_slot}
use Rattle.flow_regulations.specs.Listing.{RegulationView, lineup_named, is_frozen_in, AreApart, names_in}
use Rattle.flow_regulations.proofs.Fixeds.{no-pairs, named-pairs, unnamed-pairs, fixed-numbers}
use Rattle.flow_regulations.proofs.regulations.Regulations.note_fixed.Goals as goal

pub returns-in-Some-clause-each : goal.returns-in-Some-clause-each
returns-in-Some-clause-each g c =
    let ls : List RegulationView = c.args.self.now.lists in
    let id = c.args.id.now in
    let lu : Lineup = c.in-Some.list.now.lineup in
    let xs : List ℕ = c.note_fixed.new.flights.items in
    let N : List RegulationView → Type 0 = λ ls. lineup_named id ls ≡ Some lu in
    let there : lineup_named id ls ≡ Some lu = subst N (c.deref.ensures.value ∙ ap (λ v. v.lists) c.self.view_is) c.in-Some.ensures in
    on_ok_weaker c.note_fixed.result
    (λ all. All-weaker (λ n. IsSome (fixed_slot lu n)) (λ n. is_frozen_in id ls n ≡ true) (λ n h. ap (λ (o : Option Lineup). option_map_or (λ l. is_some (fixed_slot l n)) o false) there ∙ h) xs all) c.note_fixed.ensures.each

pub returns-in-Some-clause-numbers : goal.returns-in-Some-clause-numbers
returns-in-Some-clause-numbers g c =
    let ls : List RegulationView = c.args.self.now.lists in
    let id = c.args.id.now in
    let lu : Lineup = c.in-Some.list.now.lineup in
    let xs : List ℕ = c.note_fixed.new.flights.items in
    let N : List RegulationView → Type 0 = λ ls. lineup_named id ls ≡ Some lu in
    let there : lineup_named id ls ≡ Some lu = subst N (c.deref.ensures.value ∙ ap (λ v. v.lists) c.self.view_is) c.in-Some.ensures in
    on_ok_weaker c.note_fixed.result
    (λ all taxi now plans s k d h. fixed-numbers taxi now _ plans id lu ls s there (all k d h)) c.note_fixed.ensures.each

pub returns-in-Some-clause-others : goal.returns-in-Some-clause-others
returns-in-Some-clause-others g c =
    let ls : List RegulationView = c.args.self.now.lists in
    let id = c.args.id.now in
    let lu : Lineup = c.in-Some.list.now.lineup in
    let xs : List ℕ = c.note_fixed.new.flights.items in
    let lists = ap (λ v. v.lists) c.self.view_is in
    let N : List RegulationView → Type 0 = λ ls. lineup_named id ls ≡ Some lu in
    let there : lineup_named id ls ≡ Some lu = subst N (c.deref.ensures.value ∙ lists) c.in-Some.ensures in
    let A : List RegulationView → Type 0 = λ ls. AreApart (names_in ls) in
    let apart : AreApart (names_in ls) = subst A lists c.self.invariant.3 in
    on_ok_weaker c.note_fixed.result
    (λ all f out. named-pairs f id lu ls apart there (no-pairs f lu xs all out)) c.note_fixed.ensures.all

pub returns-in-None-clause-others : goal.returns-in-None-clause-others
returns-in-None-clause-others g c = λ f out.
    (let id = c.args.id.now in
    let N : List RegulationView → Type 0 = λ ls. lineup_named id ls ≡ None in
    unnamed-pairs f id c.args.self.now.lists (subst N (c.deref.ensures.value ∙ ap (λ v. v.lists) c.self.view_is) c.in-None.ensures))
