use Rattle.std.proofs.Common.{◌≤◌, arith}
use Rattle.trs_core.specs.View.{tree}
use Rattle.trs_defs.specs.Renaming.{shifted}
use Rattle.trs_defs.specs.Substitution.{apply}
use Rattle.trs_defs.specs.Tree.{Tree}
use Rattle.trs_unify.specs.Bindings.{stopped_size}
use Rattle.crit_pairs.specs.Meeting.{solution}
use Rattle.crit_pairs.proofs.CountedPeaks.{few_are_small}
use Rattle.crit_pairs.proofs.side_instances.bound_instance.Goals as goal

pub returns-then-nodes-le-GREATEST_DEPTH-clause-small : goal.returns-then-nodes-le-GREATEST_DEPTH-clause-small
returns-then-nodes-le-GREATEST_DEPTH-clause-small c =
    let instance : Tree = apply (solution c.args.bindings.now) (shifted c.args.from (tree c.args.side.now)) in
    let few : stopped_size instance ≤ 1024 = omega (arith, c.instance_size-nodes.ensures, c.if-nodes-le-GREATEST_DEPTH.true) in
    (few_are_small instance few, omega (arith, c.instance_size-nodes.ensures, c.if-nodes-le-GREATEST_DEPTH.true))
