use Rattle.std.proofs.Common.{get_or, subst}
use Rattle.dp_graph.specs.declared.cap_rows.End.{End}
use Rattle.std.proofs.lemmas.List.{take_all}
use Rattle.std.proofs.lemmas.Option.{slice_get-get_or}
use Rattle.dp_graph.specs.PairNodes.{AddsNodes}
use Rattle.dp_graph.proofs.PairNodeLaws.{no_node, one_more_node}
use Rattle.dp_graph.proofs.nodes.Nodes.add_all.Goals as goal

pub loop-end-init : goal.loop-end-init
loop-end-init c = no_node c.args.rule c.args.from c.args.ends.now c.args.self.now

pub loop-end-preserved : goal.loop-end-preserved
loop-end-preserved c =
    let none : End = record { symbol = 0; cap = 0 } in
    one_more_node c.args.rule c.args.from c.args.ends.now c.loop-end.end-index (get_or c.args.ends.now c.loop-end.end-index none) c.args.self.now c.loop-end.self c.add.new.self c.loop-end-test.true (slice_get-get_or c.args.ends.now c.loop-end.end-index none c.loop-end-test.true) c.loop-end.invariant c.in_ok-add.ensures

pub returns : goal.returns
returns c = subst (λ ends. AddsNodes c.args.rule c.args.from ends c.args.self.now c.loop-end.self) (take_all c.loop-end.end-index c.args.ends.now c.loop-end-test.false) c.loop-end.invariant
