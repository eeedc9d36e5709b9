-- The kind `usable` is sound.
use Rattle.std.specs.Prelude.{ℕ, List}
use Rattle.order_theory.specs.LinearInterpretation.{LinearWeak, LinearStrict}
use Rattle.order_theory.proofs.Linear.{linear_pair}
use Rattle.pair_theory.specs.DependencyPair.{dependency_pairs}
use Rattle.pair_theory.specs.ReductionPair.{AllTerms}
use Rattle.pair_theory.proofs.PairList.{listed_are_pairs}
use Rattle.poly_lin.specs.Table.{coefficient_in}
use Rattle.poly_lin.specs.Laws.{above_first, above_second}
use Rattle.order_theory.proofs.UsableProblems.{usable_theorem}
use Rattle.usable_rules.proofs.UsableConclusions.{Suffices, usable_steps_conclude, usable_steps_once, usable_steps_leave}
use Rattle.cert_step.specs.Kind.{IsSound}
use Rattle.cert_step.specs.PolyKind.{poly_comparing}
use Rattle.cert_step.specs.UsableKind.{usable_kind}
use Rattle.cert_step.proofs.PairsSound.{removal_sound}

module _ (entries : List (ℕ × List ℕ)) where
  suffices : Suffices (poly_comparing entries) AllTerms
  suffices system pairs stays usable ok good has spoken falls chooses class =
      usable_theorem system ok pairs stays good usable has (LinearWeak (coefficient_in entries)) (LinearStrict (coefficient_in entries))
      (linear_pair (coefficient_in entries)).well_founded falls chooses class

  pub usable_sound : IsSound (usable_kind entries)
  usable_sound = removal_sound _ _ (record {
    one_answer = λ system numbers. usable_steps_once (poly_comparing entries) system.rules (dependency_pairs system.rules) numbers;
    concludes = λ system numbers left valid keeps h finite.
        usable_steps_conclude (poly_comparing entries) AllTerms (λ t. tt) (above_first entries) (above_second entries) listed_are_pairs suffices
        system numbers left valid h finite;
    remain = λ system numbers left h. usable_steps_leave (poly_comparing entries) system.rules (dependency_pairs system.rules) numbers left h;
  })
