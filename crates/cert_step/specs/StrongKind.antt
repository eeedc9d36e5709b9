-- Peaks that are joined strongly, as steps of proofs.
use Rattle.std.specs.Prelude.{Bool, true, false, List, []}
use Rattle.rule_label.specs.closed_pairs.StronglyClosed.{FourPaths, strong_conditions}
use Rattle.cert_step.specs.ProofProblem as problem
use Rattle.cert_step.specs.ProofProblem.{ProofProblem}
use Rattle.cert_step.specs.Kind.{Kind, leaves}

abbrev pub for_strong : ProofProblem → Bool
for_strong problem.cr = true
for_strong _ = false

abbrev pub strong_kind : List FourPaths → Kind
strong_kind items = record {
  is_for = for_strong;
  is_well_made = λ system. Unit {0};
  conditions = λ system p. leaves [] (strong_conditions system items);
}
