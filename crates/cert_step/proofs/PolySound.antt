-- The kind `poly` is sound.
use Rattle.std.specs.Prelude.{ℕ, List}
use Rattle.order_theory.proofs.Linear.{linear_pair}
use Rattle.pair_theory.specs.ReductionPair.{AllTerms}
use Rattle.kbo_order.specs.pair_order.Entries.{has_entry}
use Rattle.poly_lin.specs.Table.{symbol_of, coefficient_in}
use Rattle.poly_lin.specs.Laws.{spoken}
use Rattle.cert_step.specs.Entries.{AreLinearEntries}
use Rattle.cert_step.specs.Kind.{IsSound}
use Rattle.cert_step.specs.PolyKind.{poly_comparing, poly_kind}
use Rattle.cert_step.proofs.OrderSound.{order_sound}

pub poly_sound : (entries : List (ℕ × List ℕ)) → IsSound (poly_kind entries)
poly_sound entries =
    order_sound (poly_comparing entries) AllTerms (λ arities. AreLinearEntries arities entries)
    (λ system valid keeps. (linear_pair (coefficient_in entries), spoken system.arities (has_entry symbol_of entries)))
