use Rattle.std.proofs.Common.{◌+◌, ◌<◌, sym, ap, arith, ◌∙◌, get_or}
use Rattle.fpl_text.specs.Bytes.{is_border}
use Rattle.fpl_text.proofs.ByteLemmas.{border-as_space}
use Rattle.fpl_text.proofs.SqueezingLemmas.{pass-kept, pass-drop, pass-stop}
use Rattle.fpl_text.proofs.squeezed.Pass.take.Goals as goal

pub note-requires-clause-bits : goal.note-requires-clause-bits
note-requires-clause-bits c k l =
    let few : k < c.args.look.len = omega (arith, l, c.kept-count.ensures.bound) in
    c.requires.look.borders k few ∙ sym (ap is_border (c.requires.spaced k few) ∙ border-as_space (get_or c.args.text.now (c.args.self.place + k) 0))

pub note-requires-clause-fits : goal.note-requires-clause-fits
note-requires-clause-fits c some =
    let next =
    pass-kept c.args.text.now c.args.out.now c.args.self.place c.args.self.made c.kept-count.result.0 c.args.look.len c.args.self.border c.kept-count.result.1 c.requires.pass
    c.kept-count.ensures.bound c.requires.look.few c.requires.spaced (c.kept-count.ensures.each _ c.requires.look) (c.kept-count.ensures.last _ c.requires.look) in
    omega (arith, next.room, next.within, c.requires.fits some)

pub returns-then-not-is_blank-clause-bad : goal.returns-then-not-is_blank-clause-bad
returns-then-not-is_blank-clause-bad c =
    let next =
    pass-kept c.args.text.now c.args.out.now c.args.self.place c.args.self.made c.kept-count.result.0 c.args.look.len c.args.self.border c.kept-count.result.1 c.requires.pass
    c.kept-count.ensures.bound c.requires.look.few c.requires.spaced (c.kept-count.ensures.each _ c.requires.look) (c.kept-count.ensures.last _ c.requires.look) in
    pass-stop c.args.text.now _ c.args.self.place _ c.kept-count.result.0 c.args.self.border c.kept-count.result.1 next c.if-place-text.true
    (c.kept-count.ensures.stops _ c.requires.look c.if-count-look.true) (sym c.is_blank.ensures ∙ c.if-not-is_blank.true)

pub returns-else-not-is_blank-clause-pass : goal.returns-else-not-is_blank-clause-pass
returns-else-not-is_blank-clause-pass c =
    let next =
    pass-kept c.args.text.now c.args.out.now c.args.self.place c.args.self.made c.kept-count.result.0 c.args.look.len c.args.self.border c.kept-count.result.1 c.requires.pass
    c.kept-count.ensures.bound c.requires.look.few c.requires.spaced (c.kept-count.ensures.each _ c.requires.look) (c.kept-count.ensures.last _ c.requires.look) in
    pass-drop c.args.text.now _ c.args.self.place _ c.kept-count.result.0 c.args.self.border c.kept-count.result.1 next c.if-place-text.true
    (c.kept-count.ensures.stops _ c.requires.look c.if-count-look.true) (c.kept-count.ensures.last _ c.requires.look) (sym c.is_blank.ensures ∙ c.if-not-is_blank.false)

pub returns-else-count-look-clause-pass : goal.returns-else-count-look-clause-pass
returns-else-count-look-clause-pass c =
    pass-kept c.args.text.now c.args.out.now c.args.self.place c.args.self.made c.kept-count.result.0 c.args.look.len c.args.self.border c.kept-count.result.1 c.requires.pass
    c.kept-count.ensures.bound c.requires.look.few c.requires.spaced (c.kept-count.ensures.each _ c.requires.look) (c.kept-count.ensures.last _ c.requires.look)
