use Rattle.std.proofs.Common.{◌≡◌, ◌≤◌, ◌∙◌, List, [], ◌∷◌, ◌++◌, map, length, vec_capacity, ap, sym, arith}
use Rattle.std.proofs.lemmas.List.{map-append, append_assoc, length-append}
use Rattle.std.proofs.lemmas.List.Elements.{All-same, All-push}
use Rattle.flow_desk.specs.declared.feeders.Done.{Done}
use Rattle.flow_desk.specs.Feeds.{IsFresh}
use Rattle.flow_desk.proofs.feeders.+gather.Goals as goal

-- a part of the elements, after one more of them
with-one : {F P : Type 0} (f : F → P) (new old : List F) (x : F) (first rest all : List P) → new ≡ old ++ x ∷ []
    → map f old ≡ first ++ rest → all ≡ rest ++ f x ∷ [] → map f new ≡ first ++ all
with-one f new old x first rest all is before split =
    ap (map f) is
    ∙ (map-append f old (x ∷ [])
    ∙ (ap (λ ps. ps ++ f x ∷ []) before
    ∙ (append_assoc first rest (f x ∷ [])
    ∙ ap (λ ps. first ++ ps) (sym split))))

pub returns-in-Ok-gather-clause-passes : goal.returns-in-Ok-gather-clause-passes
returns-in-Ok-gather-clause-passes g n c =
    with-one (λ f. f.pass) _ c.gather.new.feeds.items _ _ c.pop.new.self.items _
    c.push_reserved-in-Ok-gather.ensures.items c.in-Ok-gather.ensures.passes c.in-Some.ensures.items

pub returns-in-Ok-gather-clause-texts : goal.returns-in-Ok-gather-clause-texts
returns-in-Ok-gather-clause-texts g n c =
    with-one (λ f. f.left.items) _ c.gather.new.feeds.items _ _ (map (λ v. v.items) c.pop-2.new.self.items) _
    c.push_reserved-in-Ok-gather.ensures.items c.in-Ok-gather.ensures.texts
    (ap (map (λ v. v.items)) c.in-Some-pop.ensures.items
    ∙ map-append (λ v. v.items) c.pop-2.new.self.items (c.in-Some-pop.left ∷ []))

pub returns-in-Ok-gather-clause-len : goal.returns-in-Ok-gather-clause-len
returns-in-Ok-gather-clause-len g n c =
    let more = ap length c.in-Some.ensures.items ∙ length-append c.pop.new.self.items (c.in-Some.pass ∷ []) in
    omega (arith, c.push_reserved-in-Ok-gather.ensures.len, c.in-Ok-gather.ensures.len, more)

pub returns-in-Ok-gather-clause-fresh : goal.returns-in-Ok-gather-clause-fresh
returns-in-Ok-gather-clause-fresh g n c =
    let fresh : Done g.row.N.Denot g.row.A.Denot → Type 0 = λ f. IsFresh f.receipts.items f.left.items (vec_capacity f.receipts) in
    let left : length c.in-Some-pop.left.items ≤ vec_capacity c.in-Ok.receipts = omega (arith, c.len.ensures, c.in-Ok.ensures.exact, c.in-Some-pop.left.ok.0) in
    All-same fresh c.push_reserved-in-Ok-gather.new.self.items _ c.push_reserved-in-Ok-gather.ensures.items (All-push fresh c.gather.new.feeds.items _ c.in-Ok-gather.ensures.fresh (c.in-Ok.ensures.items, left))
