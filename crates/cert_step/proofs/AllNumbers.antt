-- The numbers of all pairs are a well-made problem.
use Rattle.std.specs.Prelude.{◌≡◌, ◌<◌, ℕ, ◌+◌, List, [], ◌∷◌, length}
use Rattle.std.proofs.Common.{zero, suc, arith, get_or}
use Rattle.trs_defs.specs.System.{System}
use Rattle.pair_theory.specs.DependencyPair.{dependency_pairs}
use Rattle.dp_graph.specs.dp_core.Numbered.{numbers_from}
use Rattle.dp_graph.proofs.dp_core.AllNumbers.{as_many_numbers}
use Rattle.cert_step.specs.ProofProblem as problem
use Rattle.cert_step.specs.ProofProblem.{IsWellMadeProblem}

number_at : {A : Type 0} (k : ℕ) (xs : List A) (i d : ℕ) → i < length xs → get_or (numbers_from k xs) i d ≡ k + i
number_at k [] i d lt = absurd (omega arith)
number_at k (x ∷ xs) zero d lt = omega arith
number_at k (x ∷ xs) (suc i) d lt = let rest = number_at (k + 1) xs i d (omega arith) in omega (arith, rest)

pub all_numbers_well_made : (system : System) → IsWellMadeProblem system (problem.dp (numbers_from 0 (dependency_pairs system.rules)))
all_numbers_well_made system =
    let all = dependency_pairs system.rules in
    let many = as_many_numbers 0 all in (
      λ k lt.
          let here = number_at 0 all k 0 (omega (arith, many, lt)) in
          let next = number_at 0 all (k + 1) 0 (omega (arith, many, lt)) in
          omega (arith, here, next),
      λ k d lt. let here = number_at 0 all k d (omega (arith, many, lt)) in omega (arith, here, many, lt),
    )
