-- The kind `subterm` is sound.
use Rattle.std.specs.Prelude.{ℕ, List}
use Rattle.pair_theory.specs.DependencyPair.{dependency_pairs}
use Rattle.dp_graph.proofs.dp_core.Conclusions.{subterm_once, subterm_leaves}
use Rattle.cert_step.specs.Kind.{IsSound}
use Rattle.cert_step.specs.SubtermKind.{subterm_kind}
use Rattle.cert_step.proofs.PairsSound.{removal_sound}
use Rattle.cert_step.proofs.Theorems.{subterm_steps}

pub subterm_sound : (projection : List (ℕ × ℕ)) → IsSound (subterm_kind projection)
subterm_sound projection = removal_sound _ _ (record {
  one_answer = λ system numbers. subterm_once (dependency_pairs system.rules) projection numbers;
  concludes = λ system numbers left valid keeps h finite. subterm_steps system projection numbers left valid h finite;
  remain = λ system numbers left h. subterm_leaves (dependency_pairs system.rules) projection numbers left h;
})
