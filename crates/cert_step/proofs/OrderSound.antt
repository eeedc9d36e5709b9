-- Kinds of steps by an order are sound, whatever the order.
use Rattle.std.specs.Prelude.{ℕ, List}
use Rattle.trs_defs.specs.Tree.{Tree}
use Rattle.trs_defs.specs.System.{System, IsSystem}
use Rattle.pair_theory.specs.DependencyPair.{dependency_pairs}
use Rattle.pair_theory.specs.ReductionPair.{ReductionPair}
use Rattle.pair_theory.proofs.PairList.{listed_are_pairs}
use Rattle.pair_theory.proofs.Problems.{removal_erased}
use Rattle.kbo_order.specs.pair_order.Spoken.{SpeaksWithEntries}
use Rattle.kbo_order.proofs.pair_order.Erasure.{speaks_of_sides, speaks_erased}
use Rattle.dp_graph.specs.dp_core.PairConditions.{Comparing}
use Rattle.dp_graph.proofs.dp_core.OrderConclusions.{Suffices, pair_steps_conclude, pair_steps_once, pair_steps_leave}
use Rattle.cert_step.specs.Kind.{IsSound}
use Rattle.cert_step.specs.OrderKind.{order_kind}
use Rattle.cert_step.proofs.PairsSound.{removal_sound}

module _ (comparing : Comparing) (speaks_of : Tree → Type 0) where
  -- it speaks of the terms over the arity table whose symbols have entries
  abbrev pub Speaks : List ℕ → Type 0
  Speaks arities = SpeaksWithEntries arities comparing.has_entry speaks_of

  suffices : ReductionPair comparing.weak comparing.strict speaks_of → Suffices comparing Speaks
  suffices laws system pairs stays ok good spoken rules sides falls class =
      removal_erased system ok comparing.weak comparing.strict speaks_of laws.well_founded falls comparing.has_entry
      (speaks_erased comparing.has_entry speaks_of laws.spoken_var system ok spoken rules) pairs stays
      (λ p i. (good p i, speaks_of_sides comparing.has_entry speaks_of laws.spoken_var system.arities spoken p (good p i) (sides p i))) class

  pub order_sound : (keeps_rules : List ℕ → Type 0)
      → ((system : System) → IsSystem system → keeps_rules system.arities → ReductionPair comparing.weak comparing.strict speaks_of × Speaks system.arities)
      → IsSound (order_kind keeps_rules comparing)
  order_sound keeps_rules laws = removal_sound _ _ (record {
    one_answer = λ system numbers. pair_steps_once comparing system.rules (dependency_pairs system.rules) numbers;
    concludes = λ system numbers left valid keeps h finite.
        let met = laws system valid keeps in
        pair_steps_conclude comparing Speaks listed_are_pairs (suffices met.0) system numbers left valid met.1 h finite;
    remain = λ system numbers left h. pair_steps_leave comparing system.rules (dependency_pairs system.rules) numbers left h;
  })
