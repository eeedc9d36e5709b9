use Rattle.std.proofs.Common.{ap, sym}
use Rattle.trs_defs.specs.Tree.{trees}
use Rattle.trs_core.proofs.Lookups.{copied_item}
use Rattle.dp_core.proofs.Projecting.{projected_to}
use Rattle.dp_core.proofs.projections.project.Goals as goal

pub returns : goal.returns
returns c =
    let found = copied_item _ _ _ c.get.ensures.lookup in
    projected_to c.args.projection.now c.args.side.now c.side.inside.symbol (trees c.side.inside.args.now) c.side.view_is c.in_ok-place.place c.deref.result.now c.get.result
    (sym c.in_ok-place.ensures) (ap trees (rw c.deref.ensures.value c.args-2.view_is)) c.if-place-eq0.false (rw (← c.from.ensures) found)
