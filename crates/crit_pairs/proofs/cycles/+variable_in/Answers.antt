use Rattle.std.proofs.Common.{◌≡◌, ap}
use Rattle.trs_defs.specs.Tree.{trees, app}
use Rattle.trs_core.specs.View.{tree, forest}
use Rattle.rewrite_core.proofs.RedexWalk.{applied}
use Rattle.crit_pairs.proofs.CyclesOfBindings.{some_below}
use Rattle.crit_pairs.proofs.cycles.+variable_in.Goals as goal

pub returns-then-is_some : goal.returns-then-is_some
returns-then-is_some t c =
    let is : tree c.args.t.now ≡ app c.in-App.field-0 (forest c.deref-arg-items.result.now) =
    applied c.deref-arg-items.result.now c.in-App.field-0 _ (tree c.args.t.now) (rw c.deref-arg-items.ensures.value (ap trees c.args-in-App.view_is)) (ap tree c.in-App.is) in
    some_below c.args.bindings.now.list.items c.variable_in-found.result c.in-App.field-0 (tree c.args.t.now) c.deref-arg-items.result.now c.loop-arg.arg-index c.arg-item.result
    is c.loop-arg-test.true c.arg-item.is c.variable_in-found.ensures
