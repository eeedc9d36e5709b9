-- How many tasks a problem gives at most: one for each of its strategies, and those of the problems that steps leave.
use Rattle.std.specs.Prelude.{ℕ, ◌+◌, ◌-◌, ◌*◌, List, [], ◌∷◌, length}
use Rattle.trs_defs.specs.System.{System}
use Rattle.pair_theory.specs.DependencyPair.{dependency_pairs}
use Rattle.cert_step.specs.ProofProblem as problem
use Rattle.cert_step.specs.ProofProblem.{ProofProblem}
use Rattle.strategies.specs.Kinds.{strategies_for}

-- how many dependency pairs the system has
abbrev pub pairs_in : System → ℕ
pairs_in system = length (dependency_pairs system.rules)

-- The tasks of the problems that steps leave for this one, by the number of pairs of the system. A problem of n pairs is
-- split or loses pairs until none is left, so it and those below it are at most 2n - 1, of six strategies each.
abbrev pub tasks_below : ℕ → ProofProblem → ℕ
tasks_below pairs problem.sn = 6 + 12 * (pairs - 1)
tasks_below pairs (problem.dp numbers) = 12 * (length numbers - 1)
tasks_below pairs problem.loop = 0
tasks_below pairs problem.cr = 0
tasks_below pairs problem.cr_newman = 7 + 12 * (pairs - 1)
tasks_below pairs problem.fork = 0
tasks_below pairs problem.unr = 3
tasks_below pairs problem.unr_newman = 8 + 12 * (pairs - 1)
tasks_below pairs problem.split = 0

-- the tasks of a problem, and of those that steps leave for it
abbrev pub tasks_of : ℕ → ProofProblem → ℕ
tasks_of pairs p = length (strategies_for p) + tasks_below pairs p

abbrev pub tasks_of_all : ℕ → List ProofProblem → ℕ
tasks_of_all pairs [] = 0
tasks_of_all pairs (p ∷ ps) = tasks_of pairs p + tasks_of_all pairs ps
