-- Path orders with filters, as steps of proofs.
use Rattle.std.specs.Prelude.{List}
use Rattle.order_theory.specs.ArgumentFilter.{PathWeak, PathStrict}
use Rattle.kbo_order.specs.pair_order.Entries.{has_entry}
use Rattle.path_lpo.specs.Table.{PathEntry, symbol_of, rank_in, filter_in}
use Rattle.dp_graph.specs.dp_core.PairConditions.{Comparing, comparing_by}
use Rattle.cert_step.specs.Entries.{ArePathEntries}
use Rattle.cert_step.specs.Kind.{Kind}
use Rattle.cert_step.specs.OrderKind.{order_kind}

abbrev pub lpo_comparing : List PathEntry → Comparing
lpo_comparing entries =
    comparing_by (has_entry symbol_of entries) (λ s t. ⊥) (PathWeak (rank_in entries) (filter_in entries))
    (PathStrict (rank_in entries) (filter_in entries))

abbrev pub lpo_kind : List PathEntry → Kind
lpo_kind entries = order_kind (λ arities. ArePathEntries arities entries) (lpo_comparing entries)
