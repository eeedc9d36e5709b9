-- The subterm criterion, as steps of proofs.
use Rattle.std.specs.Prelude.{ℕ, List}
use Rattle.pair_theory.specs.DependencyPair.{dependency_pairs}
use Rattle.dp_graph.specs.dp_core.SubtermConditions.{subterm_conditions}
use Rattle.cert_step.specs.Entries.{AreProjections}
use Rattle.cert_step.specs.Kind.{Kind}
use Rattle.cert_step.specs.OnPairs.{removal_kind}

abbrev pub subterm_kind : List (ℕ × ℕ) → Kind
subterm_kind projection =
    removal_kind (λ system. AreProjections system.arities projection)
    (λ system numbers. subterm_conditions (dependency_pairs system.rules) projection numbers)
