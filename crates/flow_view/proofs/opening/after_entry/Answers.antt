use Rattle.flow_view.proofs.Histories.{entered-next}
use Rattle.flow_view.proofs.Lists.{on-any, ok-also}
use Rattle.flow_view.proofs.Openings.{step-made}
use Rattle.flow_view.proofs.opening.after_entry.Goals as goal

pub returns-clause-filed : goal.returns-clause-filed
returns-clause-filed g c =
    on-any c.with_opened.result _
    (entered-next c.args.core.now c.args.index c.args.past.now.filed c.enter_again.new.past.filed c.entry_after-entry.result c.feeder.result c.in_ok-filing.filing
    c.entry_after-entry.ensures.entry c.requires.filed c.feeder.ensures.value c.in_ok-filing.ensures c.in_ok-enter_again.ensures.filed)

pub returns-clause-made : goal.returns-clause-made
returns-clause-made g c =
    let more = entered-next c.args.core.now c.args.index c.args.past.now.filed c.enter_again.new.past.filed c.entry_after-entry.result c.feeder.result c.in_ok-filing.filing
    c.entry_after-entry.ensures.entry c.requires.filed c.feeder.ensures.value c.in_ok-filing.ensures c.in_ok-enter_again.ensures.filed in
    ok-also c.with_opened.result _ _
    (λ made e. step-made c.args.core.now c.args.past.now c.enter_again.new.past c.args.index c.entry_after-entry.result c.shut_in-shut.result c.is_open.result
    c.args.openings.items c.in_ok-openings.openings.items made.items c.entry_after-entry.ensures.entry c.requires.setup c.requires.filed c.in_ok-enter_again.ensures.setup more
    c.shut_in-shut.ensures c.is_open.ensures c.in_ok-openings.ensures e)
    c.with_opened.ensures
