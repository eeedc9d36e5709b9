-- The kind `lpo` is sound.
use Rattle.std.specs.Prelude.{List}
use Rattle.order_theory.proofs.PathPair.{path_pair}
use Rattle.pair_theory.specs.ReductionPair.{AllTerms}
use Rattle.kbo_order.specs.pair_order.Entries.{has_entry}
use Rattle.path_lpo.specs.Table.{PathEntry, symbol_of, rank_in, filter_in, spoken}
use Rattle.cert_step.specs.Entries.{ArePathEntries}
use Rattle.cert_step.specs.Kind.{IsSound}
use Rattle.cert_step.specs.LpoKind.{lpo_comparing, lpo_kind}
use Rattle.cert_step.proofs.OrderSound.{order_sound}

pub lpo_sound : (entries : List PathEntry) → IsSound (lpo_kind entries)
lpo_sound entries =
    order_sound (lpo_comparing entries) AllTerms (λ arities. ArePathEntries arities entries)
    (λ system valid keeps. (path_pair (rank_in entries) (filter_in entries), spoken system.arities (has_entry symbol_of entries)))
