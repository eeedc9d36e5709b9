-- Joined peaks of a system that terminates, as steps of proofs.
use Rattle.std.specs.Prelude.{Bool, true, false, List, [], ◌∷◌}
use Rattle.rewrite_core.specs.PathsOfJoin.{PathsOfJoin}
use Rattle.rule_label.specs.closed_pairs.Joined.{newman_conditions}
use Rattle.cert_step.specs.ProofProblem as problem
use Rattle.cert_step.specs.ProofProblem.{ProofProblem}
use Rattle.cert_step.specs.Kind.{Kind, leaves}

abbrev pub for_newman : ProofProblem → Bool
for_newman problem.cr = true
for_newman problem.cr_newman = true
for_newman _ = false

abbrev pub newman_kind : List PathsOfJoin → Kind
newman_kind items = record {
  is_for = for_newman;
  is_well_made = λ system. Unit {0};
  conditions = λ system p. leaves (problem.sn ∷ []) (newman_conditions system items);
}
