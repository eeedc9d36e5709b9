-- What the loops of completion take and answer.
use Rattle.std.specs.Prelude.{◌≡◌, ◌<◌, ◌≤◌, ℕ, List, [], length, map, Ok, Err}
use Rattle.trs_defs.specs.Tree.{Tree}
use Rattle.trs_defs.specs.Size.{size_of}
use Rattle.trs_defs.specs.WellFormed.{IsWellFormed}
use Rattle.trs_defs.specs.Member.{In}
use Rattle.trs_defs.specs.System.{RewriteRule, System}
use Rattle.term_pool.specs.Pooled.{tree_at}
use Rattle.rewrite_core.specs.PlacedPeak.{PlacedPeak}
use Rattle.crit_pairs.specs.PeakList.{ListsPeaks}
use Rattle.crit_pairs.specs.declared.faults.PeakFault.{PeakFault}
use Rattle.completion.specs.declared.taking.Taken.{Taken}
use Rattle.completion.specs.declared.taking.Taken.TheVariants as taken
use Rattle.completion.specs.MetTerms.{IsMet}
use Rattle.completion.specs.Endings.{Limit}
use Rattle.completion.specs.CompletionRun.{sides, Outcome, Ended, Finds, Takes}
use Rattle.completion.specs.Answers.{plain_ending}

-- a well-formed term that a pool takes
pub record IsTermOver (arities : List ℕ) (t : Tree) : Type 0 where
  pub well_formed : IsWellFormed arities t
  pub small : size_of t ≤ 65536

-- the id of such a term
abbrev pub IsIdOver : List ℕ → List Tree → ℕ → Type 0
IsIdOver arities pool id = (id < length pool) × IsTermOver arities (tree_at pool id)

-- pairs of such terms
abbrev pub ArePairsOver : List ℕ → List RewriteRule → Type 0
ArePairsOver arities ps = (p : RewriteRule) → In p ps → IsTermOver arities p.left × IsTermOver arities p.right

-- the first of the critical peaks that is not passed over; or these pass a limit
pub data Looks (arities : List ℕ) (greater : Tree → Tree → Type 0) (rules : List RewriteRule) (units : ℕ) : Outcome → Type 0 where
  at_peaks : {made : Outcome} (peaks : List PlacedPeak) → ListsPeaks rules (Ok peaks) → Finds arities greater rules units (map sides peaks) made
      → Looks arities greater rules units made
  past_limit : (fault : PeakFault) → ListsPeaks rules (Err fault) → Looks arities greater rules units (Ended Limit)

-- the equations gave these rules, with so many units left; or the run ended
abbrev pub HasTaken : System → (Tree → Tree → Type 0) → ℕ → Taken → Type 0
HasTaken equations greater budget (taken.Rules system met units) =
    (system.arities ≡ equations.arities) × Takes equations.arities greater [] budget equations.rules (Ok (system.rules, units))
    × IsMet system.rules met
HasTaken equations greater budget (taken.Ended c) = Takes equations.arities greater [] budget equations.rules (Err (plain_ending c))
