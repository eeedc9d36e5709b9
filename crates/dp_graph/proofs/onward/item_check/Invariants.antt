use Rattle.std.proofs.Common.{ℕ, List}
use Rattle.rewrite_core.proofs.Items.{Passed}
use Rattle.dp_graph.specs.EarlierPairs.{IsEarlier, leads_to_none_of}
use Rattle.dp_graph.proofs.onward.item_check.Given as goal

abbrev pub invariant-loop-m : goal.invariant-loop-m
invariant-loop-m l = (before : List ℕ) → IsEarlier l.graph before l.earlier → Passed (λ _ m. leads_to_none_of l.graph m before) l.members l.m-index
