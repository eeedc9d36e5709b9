use Rattle.std.proofs.Common.{sym}
use Rattle.trs_core.specs.View.{tree}
use Rattle.dp_core.proofs.Projecting.{no_left, no_right, equal_sides, proper_sides, not_within}
use Rattle.dp_core.proofs.subterm.is_removed.Goals as goal

pub returns-in_default : goal.returns-in_default
returns-in_default c = no_left c.args.projection.now c.args.n c.sides.inside.from c.sides.inside.to c.args.sides.now c.sides.view_is (sym c.in_default.ensures)

pub returns-in_default-project : goal.returns-in_default-project
returns-in_default-project c = no_right c.args.projection.now c.args.n c.sides.inside.from c.sides.inside.to c.args.sides.now c.sides.view_is (sym c.in_default-project.ensures)

pub returns-in-Equal : goal.returns-in-Equal
returns-in-Equal c = equal_sides c.args.projection.now c.args.n c.sides.inside.from c.sides.inside.to c.args.sides.now c.sides.view_is (tree c.in-Some.left.now) (tree c.in-Some-project.right.now)
    (sym c.in-Some.ensures) (sym c.in-Some-project.ensures) c.in-Equal.ensures

pub returns-in-Proper : goal.returns-in-Proper
returns-in-Proper c = proper_sides c.args.projection.now c.args.n c.sides.inside.from c.sides.inside.to c.args.sides.now c.sides.view_is (tree c.in-Some.left.now) (tree c.in-Some-project.right.now)
    (sym c.in-Some.ensures) (sym c.in-Some-project.ensures) c.in-Proper.ensures

pub returns-in-Missing : goal.returns-in-Missing
returns-in-Missing c = not_within c.args.projection.now c.args.n c.sides.inside.from c.sides.inside.to c.args.sides.now c.sides.view_is (tree c.in-Some.left.now) (tree c.in-Some-project.right.now)
    (sym c.in-Some.ensures) (sym c.in-Some-project.ensures) c.in-Missing.ensures
