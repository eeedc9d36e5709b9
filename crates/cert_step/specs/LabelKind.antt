-- Peaks that are decreasing by the ranks of rules, as steps of proofs.
use Rattle.std.specs.Prelude.{◌<◌, ◌^◌, ℕ, Bool, true, false, List, [], All}
use Rattle.rewrite_core.specs.PathsOfJoin.{PathsOfJoin}
use Rattle.rule_label.specs.Labelled.{label_conditions}
use Rattle.cert_step.specs.ProofProblem as problem
use Rattle.cert_step.specs.ProofProblem.{ProofProblem}
use Rattle.cert_step.specs.Kind.{Kind, leaves}

abbrev pub for_label : ProofProblem → Bool
for_label problem.cr = true
for_label _ = false

abbrev pub label_kind : List ℕ → List PathsOfJoin → Kind
label_kind ranks items = record {
  is_for = for_label;
  is_well_made = λ system. All (λ r. r < 2 ^ 63) ranks;
  conditions = λ system p. leaves [] (label_conditions system ranks items);
}
