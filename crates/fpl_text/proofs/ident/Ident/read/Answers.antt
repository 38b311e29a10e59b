use Rattle.std.proofs.Common.{Some, None, sym, ap, ◌∙◌}
use Rattle.fpl_text.proofs.IdentLemmas.{name-alone}
use Rattle.std.specs.Option.{ok_or}
use Rattle.fpl_text.specs.declared.fault.FieldFault.TheVariants.{BadField}
use Rattle.fpl_text.proofs.ident.Ident.read.Goals as goal

pub returns-then-is_name : goal.returns-then-is_name
returns-then-is_name c =
    ap (λ name. ok_or (Some (record { name = name; code = None })) (BadField 7)) c.new.ensures
    ∙ sym (ap (λ ident. ok_or ident (BadField 7)) (name-alone c.args.field.now (sym c.is_name.ensures ∙ c.if-is_name.true)))
