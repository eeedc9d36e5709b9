-- What the conditions say of the critical peaks.
use Rattle.std.specs.Prelude.{◌≤◌, ℕ, List, [], ◌∷◌, length, map, Result, Ok, Err, IfOk}
use Rattle.std.proofs.Common.{sym, subst, arith}
use Rattle.trs_defs.specs.Member.{In}
use Rattle.trs_defs.specs.Tree.{Tree}
use Rattle.trs_defs.specs.System.{RewriteRule, System, IsSystem}
use Rattle.trs_defs.specs.Step.{Step}
use Rattle.trs_defs.specs.Run.{AtMostOne, Same, Once}
use Rattle.trs_defs.specs.Joinable.{IsJoinable}
use Rattle.trs_defs.specs.Claims.{IsTerminating, IsConfluent}
use Rattle.trs_defs.specs.Path.{PlacedRule, Follows}
use Rattle.trs_defs.proofs.Places.{derivation_of_follows}
use Rattle.confluence_theory.specs.Confluence.{JoinsStrongly}
use Rattle.confluence_theory.specs.Linear.{AreLeftLinear, AreRightLinear}
use Rattle.confluence_theory.specs.ParallelStep.{ParallelStepBy}
use Rattle.confluence_theory.specs.ParallelPositions.{ArePairwiseParallel}
use Rattle.confluence_theory.specs.Peak.{Peak, Covers}
use Rattle.rewrite_core.specs.PlacedPeak.{PlacedPeak}
use Rattle.rewrite_core.specs.PathsOfJoin.{PathsOfJoin}
use Rattle.rewrite_core.specs.declared.checks.refusals.CheckFault.{CheckFault}
use Rattle.rewrite_core.specs.Check.{Check, Answers, goes_on, holds}
use Rattle.rewrite_core.specs.PathCheck.{followed}
use Rattle.crit_pairs.specs.PlainPeak.{plain}
use Rattle.crit_pairs.specs.PeaksCheck.{listed}
use Rattle.crit_pairs.specs.Laws.{ListedPeaksCover}
use Rattle.closed_pairs.specs.Joined.{joins}
use Rattle.closed_pairs.specs.ParallelClosed.{closes_in_parallel}
use Rattle.closed_pairs.specs.StronglyClosed.{FourPaths, half_joins, joins_strongly}
use Rattle.closed_pairs.specs.Laws.{JoinedPeaksConclude, ParallelClosedPeaksConclude, StronglyClosedPeaksConclude}
use Rattle.closed_pairs.specs.Laws.{JoinedListConcludes, ParallelListConcludes, StrongListConcludes}
use Rattle.closed_pairs.proofs.Passing.{HasPassed, each_passed, left_linear, both_left_linear, both_right_linear}

module _ (rules : List RewriteRule) where
  joinable : (n : ℕ) (p : PlacedPeak) (join : PathsOfJoin) → joins rules n p join (Ok tt) → IsJoinable (Step rules) p.left p.right
  joinable n p join (goes_on u _ (followed _ h) (goes_on v _ (followed _ k) (holds same))) = (
    u,
    (length join.left, derivation_of_follows rules join.left p.left u h),
    (length join.right, derivation_of_follows rules join.right p.right u (subst (λ x. Follows rules join.right p.right x) (sym same) k)),
  )

  pub joined_peak : (peak : Peak) → HasPassed (joins rules) peak → IsJoinable (Step rules) peak.left peak.right
  joined_peak peak h = subst (λ x. IsJoinable (Step rules) x.left x.right) (sym h.is) (joinable h.number h.placed h.item h.passed)

  -- one parallel step leads from t to u, by a theorem on paths
  module _ (by_path : (path : List PlacedRule) (t u : Tree) → ArePairwiseParallel path → Follows rules path t u → ParallelStepBy rules t u) where
    closed : (n : ℕ) (p : PlacedPeak) (path : List PlacedRule) → closes_in_parallel rules n p path (Ok tt) → ParallelStepBy rules p.left p.right
    closed n p path (goes_on _ _ (holds parallel) (goes_on end _ (followed _ h) (holds same))) =
        subst (λ x. ParallelStepBy rules p.left x) same (by_path path p.left end parallel.0 h)

    pub closed_peak : (peak : Peak) → HasPassed (closes_in_parallel rules) peak → ParallelStepBy rules peak.left peak.right
    closed_peak peak h = subst (λ x. ParallelStepBy rules x.left x.right) (sym h.is) (closed h.number h.placed h.item h.passed)

  at_most_one : (path : List PlacedRule) (t u : Tree) → length path ≤ 1 → Follows rules path t u → AtMostOne (Step rules) t u
  at_most_one [] t u few e = subst (λ x. AtMostOne (Step rules) t x) e Same
  at_most_one (s ∷ []) t u few h =
      let (v, step, same) = derivation_of_follows rules (s ∷ []) t u h in
      Once (subst (λ x. Step rules t x) same step)
  at_most_one (s ∷ r ∷ path) t u few h = absurd (omega (arith, few))

  half : (n : ℕ) (t : Tree) (path : List PlacedRule) (i : ℕ) (u : Tree) (short : List PlacedRule) (j : ℕ) → half_joins rules n t path i u short j (Ok tt)
      → JoinsStrongly (Step rules) t u
  half n t path i u short j (goes_on _ _ (holds few) (goes_on v _ (followed _ h) (goes_on w _ (followed _ k) (holds same)))) = (
    v,
    (length path, derivation_of_follows rules path t v h),
    at_most_one short u v few (subst (λ x. Follows rules short u x) (sym same) k),
  )

  strong : (n : ℕ) (p : PlacedPeak) (four : FourPaths) → joins_strongly rules n p four (Ok tt)
      → JoinsStrongly (Step rules) p.left p.right × JoinsStrongly (Step rules) p.right p.left
  strong n p four (goes_on _ _ h k) =
      (half n p.left four.left_u 0 p.right four.right_u 1 h, half n p.right four.right_v 2 p.left four.left_v 3 k)

  pub strong_peak : (peak : Peak) → HasPassed (joins_strongly rules) peak
      → JoinsStrongly (Step rules) peak.left peak.right × JoinsStrongly (Step rules) peak.right peak.left
  strong_peak peak h =
      subst (λ x. JoinsStrongly (Step rules) x.left x.right × JoinsStrongly (Step rules) x.right x.left) (sym h.is)
      (strong h.number h.placed h.item h.passed)

-- ---- the theorems on covering peaks, at a list that covers and at the listed ones

-- Knuth and Bendix's theorem
module _ (theorem : (system : System) (peaks : List Peak) → IsSystem system → Covers system.rules peaks
    → ((peak : Peak) → In peak peaks → IsJoinable (Step system.rules) peak.left peak.right) → IsTerminating system → IsConfluent system) where
  pub joined_list : (system : System) → IsSystem system → JoinedListConcludes system
  joined_list system valid peaks items covers (goes_on _ _ (holds same) h) =
      theorem system (map plain peaks) valid covers
      (λ peak member. joined_peak system.rules peak (each_passed (joins system.rules) 0 peaks items peak same h member))

  pub joined_concludes : ListedPeaksCover → JoinedPeaksConclude
  joined_concludes cover system items valid (goes_on _ _ (listed peaks all) h) = joined_list system valid peaks items (cover system peaks valid all) h

-- Huet's theorem on parallel closed systems
module _ (theorem : (system : System) (peaks : List Peak) → IsSystem system → AreLeftLinear system.rules → Covers system.rules peaks
    → ((peak : Peak) → In peak peaks → ParallelStepBy system.rules peak.left peak.right) → IsConfluent system)
    (by_path : (rules : List RewriteRule) (path : List PlacedRule) (t u : Tree) → ArePairwiseParallel path → Follows rules path t u → ParallelStepBy rules t u) where
  pub parallel_list : (system : System) → IsSystem system → ParallelListConcludes system
  parallel_list system valid peaks items covers (goes_on _ _ linear (goes_on _ _ (holds same) h)) =
      theorem system (map plain peaks) valid (left_linear system.rules linear) covers
      (λ peak member. closed_peak system.rules (by_path system.rules) peak (each_passed (closes_in_parallel system.rules) 0 peaks items peak same h member))

  pub parallel_concludes : ListedPeaksCover → ParallelClosedPeaksConclude
  parallel_concludes cover system items valid (goes_on _ _ linear (goes_on _ _ (listed peaks all) h)) =
      parallel_list system valid peaks items (cover system peaks valid all) (goes_on tt _ linear h)

-- Huet's theorem on strongly closed systems
module _ (theorem : (system : System) (peaks : List Peak) → IsSystem system → AreLeftLinear system.rules → AreRightLinear system.rules
    → Covers system.rules peaks
    → ((peak : Peak) → In peak peaks → JoinsStrongly (Step system.rules) peak.left peak.right × JoinsStrongly (Step system.rules) peak.right peak.left)
    → IsConfluent system) where
  pub strong_list : (system : System) → IsSystem system → StrongListConcludes system
  strong_list system valid peaks items covers (goes_on _ _ linear (goes_on _ _ (holds same) h)) =
      theorem system (map plain peaks) valid (both_left_linear system.rules linear) (both_right_linear system.rules linear) covers
      (λ peak member. strong_peak system.rules peak (each_passed (joins_strongly system.rules) 0 peaks items peak same h member))

  pub strong_concludes : ListedPeaksCover → StronglyClosedPeaksConclude
  strong_concludes cover system items valid (goes_on _ _ linear (goes_on _ _ (listed peaks all) h)) =
      strong_list system valid peaks items (cover system peaks valid all) (goes_on tt _ linear h)

-- ---- a check that answers Ok has passed

pub concludes : {fact : Type 0} (check : Check (Unit {0})) (r : Result (Unit {0}) CheckFault) → Answers check r → (check (Ok tt) → fact) → IfOk r (λ _. fact)
concludes check (Ok u) h shown = shown h
concludes check (Err fault) h shown = tt
