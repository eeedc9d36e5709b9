use Rattle.std.proofs.Common.{ap}
use Rattle.trs_defs.specs.Tree.{trees}
use Rattle.trs_core.proofs.Lookups.{copied_item}
use Rattle.order_find.proofs.Arguments.{argument_value}
use Rattle.order_find.proofs.testing.argument.Goals as goal

pub returns : goal.returns
returns c =
    argument_value c.args.side.now c.side.inside.symbol (trees c.side.inside.args.now) c.side.view_is c.args.number
    c.deref.result.now c.get.result (ap trees (rw c.deref.ensures.value c.args-2.view_is)) (copied_item _ _ _ c.get.ensures.lookup)
