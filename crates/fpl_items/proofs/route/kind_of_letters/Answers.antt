use Rattle.std.proofs.Common.{◌≡◌, ◌&&◌, false, length, leb, refl, arith}
use Rattle.std.proofs.lemmas.Bool.{le-leb, lt-leb}
use Rattle.fpl_items.proofs.KindsLemmas.{kind-name, kind-other}
use Rattle.fpl_items.proofs.route.kind_of_letters.Goals as goal

pub returns-then-word-lt2 : goal.returns-then-word-lt2
returns-then-word-lt2 c =
    let few : leb 2 (length c.args.word.now) && leb (length c.args.word.now) 5 ≡ false = rw (lt-leb 2 (length c.args.word.now) (omega arith)) refl in
    kind-other c.args.word.now c.requires few

pub returns-then-word-gt5 : goal.returns-then-word-gt5
returns-then-word-gt5 c =
    let many : leb 2 (length c.args.word.now) && leb (length c.args.word.now) 5 ≡ false =
    rw (le-leb 2 (length c.args.word.now) (omega arith), lt-leb (length c.args.word.now) 5 (omega arith)) refl in
    kind-other c.args.word.now c.requires many

pub returns-else-word-gt5 : goal.returns-else-word-gt5
returns-else-word-gt5 c = kind-name c.args.word.now c.requires c.if-word-eq3.false (omega arith) (omega arith)
