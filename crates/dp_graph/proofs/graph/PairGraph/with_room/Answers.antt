use Rattle.std.proofs.Common.{subst, sym, ap, ◌∙◌}
use Rattle.trs_defs.specs.System.{System}
use Rattle.pair_theory.specs.DependencyPair.{dependency_pairs}
use Rattle.dp_graph.specs.PairNodes.{AreNodes}
use Rattle.dp_graph.specs.SameLefts.{HaveSameLefts}
use Rattle.dp_graph.proofs.PairNodeLaws.{nodes_made}
use Rattle.dp_graph.proofs.graph.PairGraph.with_room.Goals as goal

pub first_with_left-requires : goal.first_with_left-requires
first_with_left-requires c = c.rules.ensures.rules ∙ ap (λ (z : System). z.rules) (sym c.in_ok-by_root.ensures)

pub of-requires : goal.of-requires
of-requires c = subst (λ (z : System). HaveSameLefts z.rules c.deref.result.now) (sym c.in_ok-by_root.ensures) (rw c.deref.ensures.value (rw c.rules.ensures.rules at c.in_ok-lefts.ensures))

pub invariant_of-result : goal.invariant_of-result
invariant_of-result c =
    let made = subst (λ (z : System). AreNodes z.rules c.in_ok-lefts.lefts.items (dependency_pairs z.rules) c.in_ok-made.made) c.in_ok-by_root.ensures (rw c.deref.ensures.value at c.in_ok-made.ensures) in
    nodes_made c.args.trs.now c.rules.ensures.valid c.rules.ensures.limits.symbols c.in_ok-lefts.lefts.items (rw c.rules.ensures.rules at c.in_ok-lefts.ensures) c.in_ok-made.made made
