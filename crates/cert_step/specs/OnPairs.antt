-- Steps on problems of dependency pairs.
use Rattle.std.specs.Prelude.{ℕ, Bool, true, false, List, [], ◌∷◌}
use Rattle.trs_defs.specs.System.{System}
use Rattle.rewrite_core.specs.Check.{Check, Returns, ◌>>=◌}
use Rattle.cert_step.specs.ProofProblem as problem
use Rattle.cert_step.specs.ProofProblem.{ProofProblem}
use Rattle.cert_step.specs.Kind.{Kind}

abbrev pub for_pairs : ProofProblem → Bool
for_pairs (problem.dp numbers) = true
for_pairs _ = false

-- the conditions on the pairs of a problem, and the problems that their value leaves; no other problems are asked
abbrev pub on_pairs : {A : Type 0} → (List ℕ → Check A) → (A → List ProofProblem) → ProofProblem → Check (List ProofProblem)
on_pairs conditions left (problem.dp numbers) = do
  value ← conditions numbers
  Returns (left value)
on_pairs conditions left _ = λ _. ⊥

-- a step on pairs, whose parts are known to keep some rules
abbrev pub pairs_kind : {A : Type 0} → (System → Type 0) → (System → List ℕ → Check A) → (A → List ProofProblem) → Kind
pairs_kind keeps_rules conditions left = record {
  is_for = for_pairs;
  is_well_made = keeps_rules;
  conditions = λ system p. on_pairs (conditions system) left p;
}

-- the problem of these pairs, where there are any
abbrev pub problem_if_any : List ℕ → List ProofProblem
problem_if_any [] = []
problem_if_any (n ∷ numbers) = problem.dp (n ∷ numbers) ∷ []

-- a step that removes pairs: the value of its conditions is those that remain
abbrev pub removal_kind : (System → Type 0) → (System → List ℕ → Check (List ℕ)) → Kind
removal_kind keeps_rules conditions = pairs_kind keeps_rules conditions problem_if_any
