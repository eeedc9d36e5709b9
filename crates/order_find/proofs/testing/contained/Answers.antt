use Rattle.std.proofs.Common.{sym}
use Rattle.trs_core.specs.View.{tree}
use Rattle.order_find.proofs.Remembering.{no_left, no_right, both_there}
use Rattle.order_find.proofs.testing.contained.Goals as goal

pub returns-in_default : goal.returns-in_default
returns-in_default c = no_left c.pair.inside.from c.pair.inside.to c.args.pair.now c.pair.view_is c.args.left c.args.right (sym c.in_default.ensures)

pub returns-in_default-argument : goal.returns-in_default-argument
returns-in_default-argument c = no_right c.pair.inside.from c.pair.inside.to c.args.pair.now c.pair.view_is c.args.left c.args.right (sym c.in_default-argument.ensures)

pub returns : goal.returns
returns c =
    both_there c.pair.inside.from c.pair.inside.to c.args.pair.now c.pair.view_is c.args.left c.args.right (tree c.in-Some.s.now) (tree c.in-Some-argument.t.now) c.containment_in.result
    (sym c.in-Some.ensures) (sym c.in-Some-argument.ensures) c.containment_in.ensures
