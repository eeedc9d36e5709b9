use Rattle.std.proofs.Common.{arith, refl}
use Rattle.trs_defs.specs.Tree.{trees}
use Rattle.pair_theory.specs.Marked.{marked}
use Rattle.dp_core.proofs.sides.marked_copy.Goals as goal

pub overflow_add-result : goal.overflow_add-result
overflow_add-result c =
    let small = c.requires (marked c.in-App.f (trees c.in-App.args)) (rw (← c.in_ok-f.ensures, c.in-App.is) refl) in
    omega (arith, small)
