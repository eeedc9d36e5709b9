use Rattle.std.proofs.Common.{◌≡◌, ap, refl, arith}
use Rattle.trs_defs.specs.Tree.{app}
use Rattle.trs_core.specs.View.{tree, forest}
use Rattle.trs_unify.proofs.Rooms.{argument_smaller}
use Rattle.crit_pairs.proofs.SideInstances.{variable_small, argument_small}
use Rattle.crit_pairs.proofs.side_instances.+instance_depth.Goals as goal

pub overflow_add-x : goal.overflow_add-x
overflow_add-x t c = let below = variable_small c.in-Var.v (tree c.args.side.now) (ap tree c.in-Var.is) c.requires.variables in omega (arith, below, c.requires.from)

pub instance_depth-requires : goal.instance_depth-requires
instance_depth-requires t c =
    let is : tree c.args.side.now ≡ app c.in-App.field-0 (forest c.deref-arg-items.result.now) = rw (c.in-App.is, ← c.args-in-App.view_is, c.deref-arg-items.ensures.value) refl in
    let smaller = argument_smaller c.in-App.field-0 (tree c.args.side.now) c.deref-arg-items.result.now c.loop-arg.arg-index c.arg-item.result is c.loop-arg-test.true c.arg-item.is in (
      omega (arith, smaller, c.decreases),
      (
        argument_small c.in-App.field-0 (tree c.args.side.now) c.deref-arg-items.result.now c.loop-arg.arg-index c.arg-item.result is c.requires.variables c.loop-arg-test.true c.arg-item.is,
        c.requires.from,
      ),
    )
