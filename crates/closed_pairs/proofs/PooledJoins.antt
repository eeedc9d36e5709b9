-- An item that joins a peak of a pool.
use Rattle.std.specs.Prelude.{◌≡◌, ◌<◌, ◌≤◌, ℕ, ◌+◌, List, length, zip, slice_get, Some, Result, Ok, Err}
use Rattle.std.proofs.Common.{get_or, refl, sym, ◌∙◌, subst, arith}
use Rattle.std.proofs.lemmas.Option.{slice_get_read}
use Rattle.trs_defs.specs.Tree.{Tree}
use Rattle.trs_defs.specs.System.{RewriteRule, System}
use Rattle.trs_defs.specs.Path.{PlacedRule}
use Rattle.trs_defs.proofs.ListItems.{item_there}
use Rattle.rewrite_core.specs.PlacedPeak.{PlacedPeak}
use Rattle.rewrite_core.specs.PathsOfJoin.{PathsOfJoin}
use Rattle.rewrite_core.specs.PathCheck.{Runs}
use Rattle.rewrite_core.specs.declared.checks.refusals.StepRefused.{StepRefused}
use Rattle.rewrite_core.specs.declared.checks.refusals.StepRefused.TheVariants.{Count, EndsDiffer}
use Rattle.rewrite_core.specs.declared.checks.refusals.CheckFault.{CheckFault}
use Rattle.rewrite_core.specs.Check.{Check, Answers, Refuses, Needs, stops, goes_on, holds, lacks}
use Rattle.rewrite_core.proofs.Answering.{refused_first, refused_later, then_answers}
use Rattle.rewrite_core.proofs.Items.{Passed, one_more_passed, item_refused, all_passed, none_left, zipped}
use Rattle.crit_pairs.specs.PeaksCheck.{ListsCriticalPeaks}
use Rattle.crit_pairs.specs.PooledPeaks.{count_of, HoldsPeaks, ArePooled}
use Rattle.crit_pairs.specs.declared.pooled.PooledPeaks.{PooledPeaks}
use Rattle.closed_pairs.specs.Joined.{joins, newman_conditions}

-- its paths begin at terms that are the sides of the peak
module _ (rules : List RewriteRule) (n : ℕ) (p : PlacedPeak) (join : PathsOfJoin) (s : Tree) (path : List PlacedRule) (start : s ≡ p.left) (steps : path ≡ join.left) where
  left_side : (answer : Result Tree StepRefused) → Runs rules s path n 0 answer → Runs rules p.left join.left n 0 answer
  left_side answer h = subst (λ t. Runs rules t join.left n 0 answer) start (subst (λ q. Runs rules s q n 0 answer) steps h)

  pub left_refused : (fault : CheckFault) → Refuses (Runs rules s path n 0) fault → Refuses (joins rules n p join) fault
  left_refused fault h =
      refused_first _ _ fault (subst (λ t. Refuses (Runs rules t join.left n 0) fault) start (subst (λ q. Refuses (Runs rules s q n 0) fault) steps h))

  -- the left path is followed
  module _ (u : Tree) (run : Runs rules s path n 0 (Ok u)) (t : Tree) (other : List PlacedRule) (other_start : t ≡ p.right) (other_steps : other ≡ join.right) where
    pub right_refused : (fault : CheckFault) → Refuses (Runs rules t other n 1) fault → Refuses (joins rules n p join) fault
    right_refused fault h =
        refused_later _ _ fault u (left_side (Ok u) run)
        (refused_first _ _ fault (subst (λ x. Refuses (Runs rules x join.right n 1) fault) other_start (subst (λ q. Refuses (Runs rules t q n 1) fault) other_steps h)))

    pub ends_answer : (w v : Tree) (answer : Result (Unit {0}) CheckFault) → Runs rules t other n 1 (Ok v) → w ≡ u → Answers (Needs (w ≡ v) (EndsDiffer n)) answer → Answers (joins rules n p join) answer
    ends_answer w v answer k same h =
        then_answers _ _ (λ x. x) u answer (left_side (Ok u) run)
        (then_answers _ _ (λ x. x) v answer (subst (λ x. Runs rules x join.right n 1 (Ok v)) other_start (subst (λ q. Runs rules t q n 1 (Ok v)) other_steps k))
        (subst (λ x. Answers (Needs (x ≡ v) (EndsDiffer n)) answer) same h))
