use Rattle.std.proofs.Common.{◌<◌, ◌∙◌, length, get_or, map, ap, sym, arith}
use Rattle.trs_defs.specs.Tree.{var}
use Rattle.trs_defs.specs.Variable.{with_variables}
use Rattle.trs_unify.specs.Shared.{shared_trees, tree_at}
use Rattle.trs_unify.specs.declared.shared.Node.TheVariants.{Var}
use Rattle.trs_unify.proofs.BoundTerms.{built_node, argument_below}
use Rattle.trs_unify.proofs.NewNames.{no_node_left}
use Rattle.trs_unify.proofs.SharedTrees.{node_read}
use Rattle.trs_unify.proofs.Tables.{item, read_item}
use Rattle.trs_unify.proofs.WalkedNodes.{walked_again, walked_still, walked_too}
use Rattle.trs_unify.proofs.walking.+name_node.Goals as goal

pub name_node-requires : goal.name_node-requires
name_node-requires t c =
    let below : get_or c.in-App.args.items c.loop-arg.arg-index 0 < c.args.i =
    argument_below _ _ _ _ _ _ c.requires.shared c.requires.inside c.index-nodes-i.is c.in-App.is (rw c.deref-arg-items.ensures.value at c.loop-arg-test.true) in
    rw c.deref-arg-items.ensures.value (omega (arith, below, c.decreases), (c.requires.shared, (omega (arith, below, c.requires.inside), (c.loop-arg.invariant.names, c.loop-arg.invariant.walked))))

pub returns-in_ok-number_of-in-Var-clause-walked : goal.returns-in_ok-number_of-in-Var-clause-walked
returns-in_ok-number_of-in-Var-clause-walked t c =
    walked_still c.args.nodes.now c.args.marks.now c.args.names.now.order.items c.requires.walked (var c.in-Var.v) c.number_of.new.names.order.items c.in_ok-number_of-in-Var.ensures.order

pub returns-in_ok-number_of-in-Var-clause-order : goal.returns-in_ok-number_of-in-Var-clause-order
returns-in_ok-number_of-in-Var-clause-order t c =
    let e = node_read c.args.nodes.now c.args.i (Var c.in-Var.v) c.requires.shared (read_item _ _ _ _ c.requires.inside c.index-nodes-i.is c.in-Var.is) in
    c.in_ok-number_of-in-Var.ensures.order ∙ ap (with_variables c.args.names.now.order.items) (sym e)

pub returns-then-marks-i-clause-order : goal.returns-then-marks-i-clause-order
returns-then-marks-i-clause-order t c =
    let inside : c.args.i < length c.args.marks.now = omega (arith, c.requires.inside, c.requires.walked.long) in
    walked_again c.args.nodes.now c.args.marks.now c.args.names.now.order.items c.requires.walked c.args.i (item _ _ _ _ inside c.if-marks-i.true)

pub loop-arg-init : goal.loop-arg-init
loop-arg-init t c =
    let ts = shared_trees c.args.nodes.now in
    let e = built_node c.args.nodes.now c.args.i c.in-App.field-0 c.in-App.args c.index-nodes-i.result (map (tree_at ts) c.deref-arg-items.result.now) c.requires.shared c.requires.inside c.index-nodes-i.is c.in-App.is (ap (map (tree_at ts)) c.deref-arg-items.ensures.value) in
    record { names = c.requires.names; walked = c.requires.walked; order = ap (with_variables c.args.names.now.order.items) e }

pub returns-after-loop-arg-clause-walked : goal.returns-after-loop-arg-clause-walked
returns-after-loop-arg-clause-walked t c =
    let order = rw (no_node_left (tree_at (shared_trees c.args.nodes.now)) c.deref-arg-items.result.now c.loop-arg.arg-index c.loop-arg-test.false) at c.loop-arg.invariant.order in
    walked_too c.args.nodes.now c.loop-arg.marks c.loop-arg.names.order.items c.loop-arg.invariant.walked c.args.i c.args.names.now.order.items order
