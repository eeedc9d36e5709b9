use Rattle.std.proofs.Common.{◌≡◌, arith, subst}
use Rattle.dp_graph.specs.GraphConditions.{lists_of}
use Rattle.dp_graph.specs.PlaceLists.{AreEmpty}
use Rattle.dp_graph.proofs.ReversedLaws.{no_lists, one_empty_more}
use Rattle.dp_graph.proofs.lists.empty_lists.Goals as goal

pub loop-k-init : goal.loop-k-init
loop-k-init c = record { low = omega arith; empty = rw c.in_ok-lists.ensures.items no_lists }

pub loop-k-preserved : goal.loop-k-preserved
loop-k-preserved c = record {
  low = omega (arith, c.loop-k-test.true);
  empty = one_empty_more c.loop-k.lists.items c.push.new.self.items c.new.result c.loop-k.k c.in_ok-push.ensures.items c.new.ensures.items c.loop-k.invariant.empty;
}

pub returns : goal.returns
returns c =
    let low = c.loop-k.invariant.low in
    let same : c.loop-k.k ≡ c.args.n = omega (arith, low, c.loop-k-test.false) in
    subst (λ z. AreEmpty z (lists_of c.loop-k.lists.items)) same c.loop-k.invariant.empty
