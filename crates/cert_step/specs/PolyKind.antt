-- Linear interpretations, as steps of proofs.
use Rattle.std.specs.Prelude.{ℕ, List}
use Rattle.order_theory.specs.LinearInterpretation.{LinearWeak, LinearStrict}
use Rattle.kbo_order.specs.pair_order.Entries.{has_entry}
use Rattle.poly_lin.specs.Table.{symbol_of, coefficient_in}
use Rattle.poly_lin.specs.TooBig.{EitherIsBig}
use Rattle.dp_graph.specs.dp_core.PairConditions.{Comparing, comparing_by}
use Rattle.cert_step.specs.Entries.{AreLinearEntries}
use Rattle.cert_step.specs.Kind.{Kind}
use Rattle.cert_step.specs.OrderKind.{order_kind}

abbrev pub poly_comparing : List (ℕ × List ℕ) → Comparing
poly_comparing entries =
    comparing_by (has_entry symbol_of entries) (EitherIsBig (coefficient_in entries)) (LinearWeak (coefficient_in entries))
    (LinearStrict (coefficient_in entries))

abbrev pub poly_kind : List (ℕ × List ℕ) → Kind
poly_kind entries = order_kind (λ arities. AreLinearEntries arities entries) (poly_comparing entries)
