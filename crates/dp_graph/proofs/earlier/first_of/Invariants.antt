use Rattle.rewrite_core.specs.Check.{Forbids}
use Rattle.rewrite_core.specs.declared.checks.refusals.StepRefused.TheVariants.{EdgeBack}
use Rattle.rewrite_core.proofs.Items.{Passed}
use Rattle.pair_theory.specs.DependencyPair.{dependency_pairs}
use Rattle.dp_graph.specs.GraphConditions.{HasEdge}
use Rattle.dp_graph.proofs.earlier.first_of.Given as goal

abbrev pub invariant-loop-n : goal.invariant-loop-n
invariant-loop-n l = Passed (λ _ n. Forbids (HasEdge l.graph.rules (dependency_pairs l.graph.rules) l.from n) (EdgeBack l.from n)) l.pairs l.n-index
