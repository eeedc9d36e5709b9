-- Orders that make pairs fall, as steps of proofs.
use Rattle.std.specs.Prelude.{ℕ, List}
use Rattle.pair_theory.specs.DependencyPair.{dependency_pairs}
use Rattle.dp_graph.specs.dp_core.PairConditions.{Comparing, pair_conditions}
use Rattle.cert_step.specs.Kind.{Kind}
use Rattle.cert_step.specs.OnPairs.{removal_kind}

-- a step by an order that compares so, whose table keeps some rules over an arity table
abbrev pub order_kind : (List ℕ → Type 0) → Comparing → Kind
order_kind keeps_rules comparing =
    removal_kind (λ system. keeps_rules system.arities)
    (λ system numbers. pair_conditions comparing system.rules (dependency_pairs system.rules) numbers)
