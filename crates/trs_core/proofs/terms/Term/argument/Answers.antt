use Rattle.std.proofs.Common.{ap}
use Rattle.std.specs.Option.{option_map}
use Rattle.trs_defs.specs.Tree.{trees}
use Rattle.trs_core.specs.View.{tree}
use Rattle.trs_core.proofs.Lookups.{argument_at_past, copied_item}
use Rattle.trs_core.proofs.terms.Term.argument.Goals as goal

pub returns-else-place-eq0 : goal.returns-else-place-eq0
returns-else-place-eq0 c =
    let found = copied_item _ _ _ c.get.ensures.lookup in
    rw (c.in-App.is, argument_at_past c.in-App.field-0 _ _ c.args.place (ap trees c.args-in-App.view_is) c.if-place-eq0.false, ← c.deref.ensures.value, ← c.from.ensures) (ap (option_map tree) found)
