-- Dependency pairs, as what shows termination.
use Rattle.std.specs.Prelude.{Bool, true, false, [], ◌∷◌}
use Rattle.pair_theory.specs.DependencyPair.{dependency_pairs}
use Rattle.rewrite_core.specs.Check.{Returns}
use Rattle.dp_graph.specs.dp_core.Numbered.{numbers_from}
use Rattle.cert_step.specs.ProofProblem as problem
use Rattle.cert_step.specs.ProofProblem.{ProofProblem}
use Rattle.cert_step.specs.Kind.{Kind}

abbrev pub for_dp : ProofProblem → Bool
for_dp problem.sn = true
for_dp _ = false

-- the problem of all pairs is left, also where there is none
abbrev pub dp_kind : Kind
dp_kind = record {
  is_for = for_dp;
  is_well_made = λ system. Unit {0};
  conditions = λ system p. Returns (problem.dp (numbers_from 0 (dependency_pairs system.rules)) ∷ []);
}
