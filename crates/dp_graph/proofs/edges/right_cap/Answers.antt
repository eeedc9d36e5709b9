use Rattle.std.proofs.lemmas.Result.{IfOk-weaker}
use Rattle.trs_core.specs.View.{tree}
use Rattle.trs_caps.specs.View.{holed}
use Rattle.pair_theory.specs.Marked.{mark}
use Rattle.dp_graph.proofs.EdgeTest.{same_cap}
use Rattle.dp_graph.proofs.edges.right_cap.Goals as goal

pub returns : goal.returns
returns c = IfOk-weaker c.cap.result _ _
    (λ d h pair there. same_cap c.args.by_root.now c.args.trs.now (tree c.in_ok-right.right) (mark pair.to) (holed d) c.requires.system (c.in_ok-right.ensures pair there) h)
    c.cap.ensures.cap
