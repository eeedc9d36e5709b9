-- Linear interpretations that make the usable rules weak, as steps of proofs.
use Rattle.std.specs.Prelude.{ℕ, List}
use Rattle.pair_theory.specs.DependencyPair.{dependency_pairs}
use Rattle.usable_rules.specs.UsableConditions.{usable_conditions}
use Rattle.cert_step.specs.Entries.{AreLinearEntries}
use Rattle.cert_step.specs.Kind.{Kind}
use Rattle.cert_step.specs.OnPairs.{removal_kind}
use Rattle.cert_step.specs.PolyKind.{poly_comparing}

abbrev pub usable_kind : List (ℕ × List ℕ) → Kind
usable_kind entries =
    removal_kind (λ system. AreLinearEntries system.arities entries)
    (λ system numbers. usable_conditions (poly_comparing entries) system.rules (dependency_pairs system.rules) numbers)
