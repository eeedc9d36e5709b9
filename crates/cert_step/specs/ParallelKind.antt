-- Peaks that are closed by parallel steps, as steps of proofs.
use Rattle.std.specs.Prelude.{Bool, true, false, List, []}
use Rattle.trs_defs.specs.Path.{PlacedRule}
use Rattle.rule_label.specs.closed_pairs.ParallelClosed.{parallel_conditions}
use Rattle.cert_step.specs.ProofProblem as problem
use Rattle.cert_step.specs.ProofProblem.{ProofProblem}
use Rattle.cert_step.specs.Kind.{Kind, leaves}

abbrev pub for_parallel : ProofProblem → Bool
for_parallel problem.cr = true
for_parallel _ = false

abbrev pub parallel_kind : List (List PlacedRule) → Kind
parallel_kind items = record {
  is_for = for_parallel;
  is_well_made = λ system. Unit {0};
  conditions = λ system p. leaves [] (parallel_conditions system items);
}
