use Rattle.left_right.specs.Sides.{view as view_of}
use Rattle.std.proofs.Common.{Bool, ◌≡◌, List, drop, refl, sym, ◌∙◌, ap}
use Rattle.flow_desk.specs.Boards.{BoardView, OperationView, absorbed}
use Rattle.std.specs.List.{fold}
use Rattle.flow_desk.specs.Seats.{PublisherView}
use Rattle.flow_desk.proofs.Keeping.{publishes, published, done}
use Rattle.flow_desk.proofs.seat.Publisher.publish.Goals as goal

abbrev as_writer : Bool → BoardView → PublisherView
as_writer k x = record { knows = k; book = x.book; setup = x.setup; entries = x.entries }

pub replace_with-published-requires : goal.replace_with-published-requires
replace_with-published-requires g c next is =
    let x : BoardView = c.append.new.writer.desk.shown.value in
    let op : OperationView = c.args.operation in
    let xs : List OperationView = drop c.self.inside.writer.behind c.self.inside.writer.log.items in
    let same : c.args.self.now ≡ as_writer c.args.self.now.knows x = sym c.self.view_is ∙ (ap (λ d. as_writer (view_of c.self.inside.writer.desk.place).knows d.shown.value) (sym c.append.ensures.desk) ∙ ap (λ (w : PublisherView). as_writer w.knows x) c.self.view_is) in
    let none : fold absorbed x xs ≡ x = rw (ap (λ d. d.shown.value) c.append.ensures.desk) c.self.invariant.0 in
    publishes _ _ x next op xs none (is ∙ ap (λ os. fold absorbed x os) c.append.ensures.pending)
    (c.requires.book ∙ ap (λ w. w.book) same)
    (rw same at c.requires.later)
    c.requires.number
    (rw same at c.requires.rows)

pub returns : goal.returns
returns g c =
    let x : BoardView = c.append.new.writer.desk.shown.value in
    let y : BoardView = c.replace_with-published.new.dest.desk.shown.value in
    let op : OperationView = c.args.operation in
    let xs : List OperationView = drop c.self.inside.writer.behind c.self.inside.writer.log.items in
    let e = c.replace_with-published.ensures in
    let values = done c.replace_with-published.result _ _ (e.1.0 tt) e.1.1.0 in
    let rule = done c.replace_with-published.result _ _ (e.1.0 tt) e.1.1.1 in
    let none : fold absorbed x xs ≡ x = rw (ap (λ d. d.shown.value) c.append.ensures.desk) c.self.invariant.0 in
    let is : y ≡ absorbed x op = published x y op xs none (values.0 ∙ ap (λ os. fold absorbed x os) c.append.ensures.pending) in
    let setup : x.setup ≡ c.args.self.now.setup = ap (λ d. d.shown.value.setup) c.append.ensures.desk ∙ ap (λ w. w.setup) c.self.view_is in (
      rule.known.0,
      ap (λ b. b.book) is ∙ c.requires.book,
      ap (λ b. b.setup) is ∙ setup,
      ap (λ b. b.entries) is,
    )

pub invariant_of-self : goal.invariant_of-self
invariant_of-self g c =
    let e = c.replace_with-published.ensures in
    let values = done c.replace_with-published.result _ _ (e.1.0 tt) e.1.1.0 in
    let rule = done c.replace_with-published.result _ _ (e.1.0 tt) e.1.1.1 in
    (rw values.1 refl, λ _. (rule.known.1, rule.known.2, rule.known.3))
