-- Knuth-Bendix orders, as steps of proofs.
use Rattle.std.specs.Prelude.{List}
use Rattle.order_theory.specs.KnuthBendix.{KnuthWeak, KnuthGreater}
use Rattle.kbo_order.specs.pair_order.Entries.{has_entry}
use Rattle.kbo_order.specs.declared.entries.KboEntry.{KboEntry}
use Rattle.kbo_order.specs.Table.{symbol_of, weight_in, rank_in}
use Rattle.kbo_order.specs.TooBig.{EitherIsBig}
use Rattle.dp_graph.specs.dp_core.PairConditions.{Comparing, comparing_by}
use Rattle.cert_step.specs.Entries.{AreKboEntries}
use Rattle.cert_step.specs.Kind.{Kind}
use Rattle.cert_step.specs.OrderKind.{order_kind}

abbrev pub kbo_comparing : List KboEntry → Comparing
kbo_comparing entries =
    comparing_by (has_entry symbol_of entries) (EitherIsBig (weight_in entries))
    (KnuthWeak (weight_in entries) (rank_in entries)) (KnuthGreater (weight_in entries) (rank_in entries))

abbrev pub kbo_kind : List KboEntry → Kind
kbo_kind entries = order_kind (λ arities. AreKboEntries arities entries) (kbo_comparing entries)
