-- What the conditions on decreasing peaks say of the critical peaks.
use Rattle.std.specs.Prelude.{◌≡◌, ℕ, List, [], ◌∷◌, map, Ok}
use Rattle.std.proofs.Common.{refl, sym, ap, subst}
use Rattle.trs_defs.specs.Member.{In}
use Rattle.trs_defs.specs.Tree.{Tree}
use Rattle.trs_defs.specs.System.{RewriteRule, System, IsSystem}
use Rattle.trs_defs.specs.Claims.{IsConfluent}
use Rattle.trs_defs.specs.Path.{PlacedRule, Follows}
use Rattle.confluence_theory.specs.LabelledPath.{LabelledPath}
use Rattle.confluence_theory.specs.RanksFit.{RanksFit}
use Rattle.confluence_theory.specs.Linear.{AreLeftLinear, AreRightLinear}
use Rattle.confluence_theory.specs.Peak.{Peak, Covers}
use Rattle.confluence_theory.specs.RuleRanks.{NumberedStep, rank_of, IsDecreasing}
use Rattle.rewrite_core.specs.PlacedPeak.{PlacedPeak}
use Rattle.rewrite_core.specs.PathsOfJoin.{PathsOfJoin}
use Rattle.rewrite_core.specs.Check.{goes_on, holds}
use Rattle.rewrite_core.specs.PathCheck.{followed}
use Rattle.closed_pairs.specs.crit_pairs.PlainPeak.{plain}
use Rattle.closed_pairs.specs.crit_pairs.PeaksCheck.{listed}
use Rattle.closed_pairs.specs.crit_pairs.Laws.{ListedPeaksCover}
use Rattle.closed_pairs.proofs.Passing.{HasPassed, each_passed, both_left_linear, both_right_linear}
use Rattle.rule_label.specs.Labelled.{ranks_along, joins_decreasing}
use Rattle.rule_label.specs.Laws.{DecreasingListConcludes, DecreasingPeaksConclude}

same_ranks : (ranks : List ℕ) (path : List PlacedRule) → ranks_along ranks path ≡ map (rank_of ranks) (map (λ s. s.rule) path)
same_ranks ranks [] = refl
same_ranks ranks (s ∷ path) = ap (λ x. rank_of ranks s.rule ∷ x) (same_ranks ranks path)

module _ (by_path : (rules : List RewriteRule) (path : List PlacedRule) (t u : Tree) → Follows rules path t u → LabelledPath (NumberedStep rules) (map (λ s. s.rule) path) t u) where
  module _ (rules : List RewriteRule) (ranks : List ℕ) where
    decreasing : (n : ℕ) (p : PlacedPeak) (join : PathsOfJoin) → joins_decreasing rules ranks n p join (Ok tt) → IsDecreasing rules ranks (plain p)
    decreasing n p join (goes_on _ _ (goes_on u _ (followed _ h) (goes_on v _ (followed _ k) (holds same))) (goes_on _ _ (holds left) (holds right))) =
        record {
          end = u;
          left_path = map (λ s. s.rule) join.left;
          left_steps = by_path rules join.left p.left u h;
          left_fits = subst (λ x. RanksFit (rank_of ranks p.inner) (rank_of ranks p.outer) x) (same_ranks ranks join.left) left;
          right_path = map (λ s. s.rule) join.right;
          right_steps = by_path rules join.right p.right u (subst (λ x. Follows rules join.right p.right x) (sym same) k);
          right_fits = subst (λ x. RanksFit (rank_of ranks p.outer) (rank_of ranks p.inner) x) (same_ranks ranks join.right) right;
        }

    decreasing_peak : (peak : Peak) → HasPassed (joins_decreasing rules ranks) peak → IsDecreasing rules ranks peak
    decreasing_peak peak h = subst (λ x. IsDecreasing rules ranks x) (sym h.is) (decreasing h.number h.placed h.item h.passed)

  -- the theorem on decreasing peaks that cover a system, at a list that covers and at the listed ones
  module _ (theorem : (system : System) (ranks : List ℕ) (peaks : List Peak) → IsSystem system → AreLeftLinear system.rules → AreRightLinear system.rules
      → Covers system.rules peaks → ((peak : Peak) → In peak peaks → IsDecreasing system.rules ranks peak) → IsConfluent system) where
    pub decreasing_list : (system : System) → IsSystem system → DecreasingListConcludes system
    decreasing_list system valid peaks ranks items covers (goes_on _ _ linear (goes_on _ _ (holds ranked) (goes_on _ _ (holds same) h))) =
        theorem system ranks (map plain peaks) valid (both_left_linear system.rules linear) (both_right_linear system.rules linear) covers
        (λ peak member. decreasing_peak system.rules ranks peak (each_passed (joins_decreasing system.rules ranks) 0 peaks items peak same h member))

    pub decreasing_concludes : ListedPeaksCover → DecreasingPeaksConclude
    decreasing_concludes cover system ranks items valid (goes_on _ _ linear (goes_on _ _ (listed peaks all) h)) =
        decreasing_list system valid peaks ranks items (cover system peaks valid all) (goes_on tt _ linear h)
