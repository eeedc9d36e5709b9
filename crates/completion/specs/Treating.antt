-- What the code makes of a pair.
use Rattle.std.specs.Prelude.{◌≡◌, ◌≢◌, ◌<◌, ◌≤◌, ℕ, ◌+◌, ◌⊎◌, Bool, true, false, List, ◌++◌, length}
use Rattle.std.proofs.Common.{suc}
use Rattle.trs_defs.specs.Tree.{Tree}
use Rattle.trs_defs.specs.Size.{size_of}
use Rattle.trs_defs.specs.System.{RewriteRule, System}
use Rattle.trs_core.specs.SystemLimits.{nodes_of}
use Rattle.completion.specs.declared.treating.Outcome.{Outcome as CodeOutcome}
use Rattle.completion.specs.declared.treating.Outcome.TheVariants as outcome
use Rattle.completion.specs.Orienting.{IsNewRule, IsOriented, IsUnoriented, Fits}
use Rattle.completion.specs.Endings.{Ending, Done, Unorientable, Spent, Limit, with_rules}
use Rattle.completion.specs.CompletionRun.{Outcome, Passed, Added, Ended}
use Rattle.completion.specs.Answers.{plain_ending}

abbrev pub pair_of : Tree → Tree → RewriteRule
pair_of s t = record { left = s; right = t }

-- the system with some more rules behind its own
abbrev pub whole : System → List RewriteRule → System
whole system more = with_rules system (system.rules ++ more)

-- with a new rule behind them rules are few, and have few nodes
abbrev pub HasRoom : List RewriteRule → RewriteRule → Type 0
HasRoom rules r = (length rules + 1 ≤ 4095) × (nodes_of rules + (size_of r.left + size_of r.right) ≤ 65536)

-- what became of the pair is something of which this holds
abbrev pub IsOutcome : (Outcome → Type 0) → CodeOutcome → Type 0
IsOutcome holds (outcome.Passed n) = holds (Passed n)
IsOutcome holds (outcome.Added r n) = holds (Added r n)
IsOutcome holds (outcome.Ended c) = holds (Ended (plain_ending c))

abbrev pub IsAddedEnding : System → ℕ → Tree → Tree → Ending → Type 0
IsAddedEnding system units s t (Done rules) = ⊥
IsAddedEnding system units s t (Unorientable u v) = ⊥
IsAddedEnding system units s t Spent = units ≡ 0
IsAddedEnding system units s t Limit = (0 < units) × ((r : RewriteRule) × IsNewRule s t r × (Fits system.arities system.rules r → ⊥))

-- s to t as a new rule
abbrev pub IsAdded : System → ℕ → Tree → Tree → CodeOutcome → Type 0
IsAdded system units s t (outcome.Passed n) = ⊥
IsAdded system units s t (outcome.Added r n) = (units ≡ suc n) × IsNewRule s t r × Fits system.arities system.rules r
IsAdded system units s t (outcome.Ended c) = IsAddedEnding system units s t (plain_ending c)

abbrev pub IsComparedEnding : (Tree → Tree → Type 0) → System → ℕ → Tree → Tree → Ending → Type 0
IsComparedEnding greater system units s t (Done rules) = ⊥
IsComparedEnding greater system units s t (Unorientable u v) = IsUnoriented greater s t u v
IsComparedEnding greater system units s t Spent = (units ≡ 0) × (greater s t ⊎ greater t s)
IsComparedEnding greater system units s t Limit =
    (0 < units) × ((r : RewriteRule) × IsOriented greater s t r × (Fits system.arities system.rules r → ⊥))

-- what becomes of two normal forms
abbrev pub IsCompared : (Tree → Tree → Type 0) → System → ℕ → Tree → Tree → CodeOutcome → Type 0
IsCompared greater system units s t (outcome.Passed n) = (s ≡ t) × (n ≡ units)
IsCompared greater system units s t (outcome.Added r n) =
    (s ≢ t) × (units ≡ suc n) × IsOriented greater s t r × Fits system.arities system.rules r
IsCompared greater system units s t (outcome.Ended c) = (s ≢ t) × IsComparedEnding greater system units s t (plain_ending c)

-- the pair was passed over
abbrev pub is_passed : CodeOutcome → Bool
is_passed (outcome.Passed n) = true
is_passed (outcome.Added r n) = false
is_passed (outcome.Ended c) = false
