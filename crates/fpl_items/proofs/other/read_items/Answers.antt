use Rattle.std.proofs.Common.{◌≡◌, ◌∷◌, [], length, drop, arith, ap, sym, subst, refl, ◌∙◌}
use Rattle.std.specs.Prelude.{is_some}
use Rattle.fpl_items.specs.Items.{ItemView, item_at, items_of, from_effect, eet_of, item_fault, SaysAfter}
use Rattle.fpl_items.specs.Estimates.{estimate_count, estimates_in}
use Rattle.fpl_items.proofs.EffectLemmas.{next-item, next-said, said-eet, eet-fault, fault-found, all-faultless, all-told, other-item}
use Rattle.fpl_items.proofs.other.read_items.Goals as goal

pub count_estimates-requires : goal.count_estimates-requires
count_estimates-requires c =
    let left = items_of c.items.words in
    let words = c.take_eet.new.words in
    let same : from_effect left ≡ eet_of words ∷ items_of (drop 1 words) = sym c.skip_to_effect.ensures.items ∙ c.take_eet.ensures.yes c.if-take_eet.true in
    omega (arith, c.requires, c.items.invariant.counted, (next-item (eet_of words) (items_of (drop 1 words)) left same).count)

pub returns-in_default-clause-fault : goal.returns-in_default-clause-fault
returns-in_default-clause-fault c =
    let left = items_of c.items.words in
    let words = c.take_eet.new.words in
    let same : from_effect left ≡ eet_of words ∷ items_of (drop 1 words) = sym c.skip_to_effect.ensures.items ∙ c.take_eet.ensures.yes c.if-take_eet.true in
    fault-found c.items.effects _ (eet_of words) (items_of (drop 1 words)) left (items_of c.args.words) c.items.invariant.say same
    (eet-fault (is_some c.items.effects.day) words (sym c.in_default.ensures.all))

pub overflow_add-effects : goal.overflow_add-effects
overflow_add-effects c =
    let left = items_of c.items.words in
    let words = c.take_eet.new.words in
    let same : from_effect left ≡ eet_of words ∷ items_of (drop 1 words) = sym c.skip_to_effect.ensures.items ∙ c.take_eet.ensures.yes c.if-take_eet.true in
    record { fits = omega (arith, c.requires, c.items.invariant.counted, (next-item (eet_of words) (items_of (drop 1 words)) left same).count, c.in-Some.ensures.count) }

pub items-smaller-then-take_eet : goal.items-smaller-then-take_eet
items-smaller-then-take_eet c =
    let left = items_of c.items.words in
    let words = c.take_eet.new.words in
    let same : from_effect left ≡ eet_of words ∷ items_of (drop 1 words) = sym c.skip_to_effect.ensures.items ∙ c.take_eet.ensures.yes c.if-take_eet.true in
    omega (arith, (next-item (eet_of words) (items_of (drop 1 words)) left same).fewer, ap length c.in-Some.ensures.items)

pub items-preserved-then-take_eet : goal.items-preserved-then-take_eet
items-preserved-then-take_eet c =
    let left = items_of c.items.words in
    let words = c.take_eet.new.words in
    let same : from_effect left ≡ eet_of words ∷ items_of (drop 1 words) = sym c.skip_to_effect.ensures.items ∙ c.take_eet.ensures.yes c.if-take_eet.true in
    record {
      say = said-eet c.items.effects words (items_of c.count_estimates.new.words) left (items_of c.args.words) c.items.invariant.say same (sym c.in-Some.ensures.all) c.in-Some.ensures.items;
      counted = omega (arith, c.items.invariant.counted, (next-item (eet_of words) (items_of (drop 1 words)) left same).count, c.in-Some.ensures.count, ap estimate_count c.in-Some.ensures.items);
    }

pub returns-in_default-take_first-clause-faultless : goal.returns-in_default-take_first-clause-faultless
returns-in_default-take_first-clause-faultless c =
    let left = items_of c.items.words in
    let no = c.take_eet.ensures.no c.if-take_eet.false in
    let same : from_effect left ≡ [] = sym c.skip_to_effect.ensures.items ∙ ap items_of (sym no.0) ∙ c.in_default-take_first.ensures.items in
    all-faultless c.items.effects left (items_of c.args.words) c.items.invariant.say same

pub returns-in_default-take_first-clause-tells : goal.returns-in_default-take_first-clause-tells
returns-in_default-take_first-clause-tells c =
    let left = items_of c.items.words in
    let no = c.take_eet.ensures.no c.if-take_eet.false in
    let same : from_effect left ≡ [] = sym c.skip_to_effect.ensures.items ∙ ap items_of (sym no.0) ∙ c.in_default-take_first.ensures.items in
    all-told c.items.effects left (items_of c.args.words) c.items.invariant.say same c.items.invariant.counted

pub items-smaller : goal.items-smaller
items-smaller c =
    let left = items_of c.items.words in
    let item : ItemView = item_at c.in-Some-take_first.first.word.now c.take_first.new.words in
    let no = c.take_eet.ensures.no c.if-take_eet.false in
    let same : from_effect left ≡ item ∷ items_of c.take_first.new.words = sym c.skip_to_effect.ensures.items ∙ ap items_of (sym no.0) ∙ c.in-Some-take_first.ensures.items in
    omega (arith, (next-item item (items_of c.take_first.new.words) left same).fewer)

pub items-preserved : goal.items-preserved
items-preserved c =
    let left = items_of c.items.words in
    let item : ItemView = item_at c.in-Some-take_first.first.word.now c.take_first.new.words in
    let no = c.take_eet.ensures.no c.if-take_eet.false in
    let same : from_effect left ≡ item ∷ items_of c.take_first.new.words = sym c.skip_to_effect.ensures.items ∙ ap items_of (sym no.0) ∙ c.in-Some-take_first.ensures.items in
    let other = other-item (items_of c.skip_to_effect.new.words) (items_of c.take_first.new.words) item no.1 (ap items_of (sym no.0) ∙ c.in-Some-take_first.ensures.items) in
    let none : estimates_in item ≡ 0 = rw other refl in
    let says : SaysAfter c.items.effects.day c.items.effects.exempt item c.in-Ok.next.day c.in-Ok.next.exempt =
    subst (λ i. SaysAfter c.items.effects.day c.items.effects.exempt i c.in-Ok.next.day c.in-Ok.next.exempt) c.new.ensures c.in-Ok.ensures.says in
    record {
      say = next-said c.items.effects.day c.in-Ok.next.day c.items.effects.exempt c.in-Ok.next.exempt item (items_of c.take_first.new.words) left (items_of c.args.words) c.items.invariant.say same says;
      counted = omega (arith, c.items.invariant.counted, (next-item item (items_of c.take_first.new.words) left same).count, none, c.in-Ok.ensures.count);
    }

pub returns-in-Err-clause-fault : goal.returns-in-Err-clause-fault
returns-in-Err-clause-fault c =
    let left = items_of c.items.words in
    let item : ItemView = item_at c.in-Some-take_first.first.word.now c.take_first.new.words in
    let no = c.take_eet.ensures.no c.if-take_eet.false in
    let same : from_effect left ≡ item ∷ items_of c.take_first.new.words = sym c.skip_to_effect.ensures.items ∙ ap items_of (sym no.0) ∙ c.in-Some-take_first.ensures.items in
    fault-found c.items.effects c.in-Err.fault item (items_of c.take_first.new.words) left (items_of c.args.words) c.items.invariant.say same
    (ap (item_fault (is_some c.items.effects.day)) (sym c.new.ensures) ∙ c.in-Err.ensures.fault)
