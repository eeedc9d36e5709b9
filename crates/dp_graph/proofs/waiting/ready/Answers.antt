use Rattle.dp_graph.specs.GraphConditions.{lists_of}
use Rattle.dp_graph.specs.Waiting.{IsFreeLeader}
use Rattle.dp_graph.proofs.WaitingLaws.{none_ready, ready_more, all_ready}
use Rattle.dp_graph.proofs.waiting.ready.Goals as goal

pub loop-v-init : goal.loop-v-init
loop-v-init c = none_ready (IsFreeLeader c.args.leaders.now (lists_of c.args.blockers.now)) c.new-ready.result c.new-ready.ensures.empty

pub loop-v-preserved : goal.loop-v-preserved
loop-v-preserved c =
    ready_more (IsFreeLeader c.args.leaders.now (lists_of c.args.blockers.now)) c.loop-v.ready c.add_if.new.set c.loop-v.v c.is_free.result c.is_free.ensures c.in_ok-add_if.ensures c.loop-v.invariant

pub returns : goal.returns
returns c = all_ready c.args.leaders.now (lists_of c.args.blockers.now) c.loop-v.ready c.loop-v.v c.loop-v-test.false c.loop-v.invariant
