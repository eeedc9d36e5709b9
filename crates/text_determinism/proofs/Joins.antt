-- What the strategies parallel, strong and newman find on a list of peaks is one, and excludes that they fail on it.
use Rattle.std.specs.Prelude.{◌≡◌, List}
use Rattle.std.proofs.Common.{ap₂}
use Rattle.trs_defs.specs.Tree.{Tree}
use Rattle.trs_defs.specs.System.{System, IsSystem}
use Rattle.trs_defs.specs.Path.{PlacedRule}
use Rattle.term_pool.proofs.ReachOnce.{reach_once}
use Rattle.rewrite_core.specs.PlacedPeak.{PlacedPeak}
use Rattle.rewrite_core.specs.PathsOfJoin.{PathsOfJoin}
use Rattle.conclusion.specs.report_text.strategies.closed_pairs.StronglyClosed.{FourPaths}
use Rattle.conclusion.specs.report_text.strategies.join_find.ParallelRow.{IsParallelClosing, FindsParallel, FailsParallel, not_left_linear, not_closed}
use Rattle.conclusion.specs.report_text.strategies.join_find.NewmanRow.{IsFirstJoin, HasNoJoin, FindsNewman, FailsNewman}
use Rattle.conclusion.specs.report_text.strategies.join_find.StrongRow.{IsFirstHalf, HasNoHalf, IsFirstFour, HasNoFour, none_from_left, none_from_right}
use Rattle.conclusion.specs.report_text.strategies.join_find.StrongRow.{FindsStrong, FailsStrong, not_linear, not_joined}
use Rattle.text_determinism.proofs.Firsts.{along_once, along_at}
use Rattle.text_determinism.proofs.ParallelSteps.{parallel_once}
use Rattle.text_determinism.proofs.Commons.{join_of, common_same, common_or_none, near_once}

abbrev four_of : PathsOfJoin → PathsOfJoin → FourPaths
four_of a b = record { left_u = a.left; right_u = a.right; right_v = b.left; left_v = b.right }

module _ (system : System) (valid : IsSystem system) where
  -- ---- parallel

  closing_once : (peak : PlacedPeak) (a b : List PlacedRule) → IsParallelClosing system.rules peak a → IsParallelClosing system.rules peak b → a ≡ b
  closing_once peak a b h k = parallel_once system.rules peak.left peak.right a b h.parallel k.parallel

  pub parallels_once : (peaks : List PlacedPeak) (a b : List (List PlacedRule)) → FindsParallel system.rules peaks a
      → FindsParallel system.rules peaks b → a ≡ b
  parallels_once peaks a b h k = along_once (IsParallelClosing system.rules) closing_once h.closed k.closed

  pub parallel_not_failed : (peaks : List PlacedPeak) (a : List (List PlacedRule)) → FindsParallel system.rules peaks a
      → FailsParallel system.rules peaks → ⊥
  parallel_not_failed peaks a h (not_left_linear bent) = bent h.linear
  parallel_not_failed peaks a h (not_closed (peak, there, without)) =
      let (steps, closing) = along_at (IsParallelClosing system.rules) h.closed there in
      without.none steps closing

  -- ---- newman

  join_once : (peak : PlacedPeak) (a b : PathsOfJoin) → IsFirstJoin system.rules peak a → IsFirstJoin system.rules peak b → a ≡ b
  join_once peak a b h k =
      common_same h.lefts k.lefts h.rights k.rights
      (reach_once system valid peak.left 16 256 4096 h.lefts k.lefts h.from_left k.from_left)
      (reach_once system valid peak.right 16 256 4096 h.rights k.rights h.from_right k.from_right) a b h.common k.common

  join_or_none : (peak : PlacedPeak) (a : PathsOfJoin) → IsFirstJoin system.rules peak a → HasNoJoin system.rules peak → ⊥
  join_or_none peak a h k =
      common_or_none h.lefts k.lefts h.rights k.rights
      (reach_once system valid peak.left 16 256 4096 h.lefts k.lefts h.from_left k.from_left)
      (reach_once system valid peak.right 16 256 4096 h.rights k.rights h.from_right k.from_right) a h.common k.none

  pub newman_once : (peaks : List PlacedPeak) (a b : List PathsOfJoin) → FindsNewman system.rules peaks a → FindsNewman system.rules peaks b → a ≡ b
  newman_once peaks a b h k = along_once (IsFirstJoin system.rules) join_once h k

  pub newman_not_failed : (peaks : List PlacedPeak) (a : List PathsOfJoin) → FindsNewman system.rules peaks a → FailsNewman system.rules peaks → ⊥
  newman_not_failed peaks a h (peak, there, none) =
      let (join, joins) = along_at (IsFirstJoin system.rules) h there in
      join_or_none peak join joins none

  -- ---- strong

  half_once : (from to : Tree) (a b : PathsOfJoin) → IsFirstHalf system.rules from to a → IsFirstHalf system.rules from to b → a ≡ b
  half_once from to a b h k =
      common_same h.reached k.reached h.near k.near
      (reach_once system valid from 16 256 4096 h.reached k.reached h.from_there k.from_there)
      (near_once system valid to h.near k.near h.to_there k.to_there) a b h.common k.common

  half_or_none : (from to : Tree) (a : PathsOfJoin) → IsFirstHalf system.rules from to a → HasNoHalf system.rules from to → ⊥
  half_or_none from to a h k =
      common_or_none h.reached k.reached h.near k.near
      (reach_once system valid from 16 256 4096 h.reached k.reached h.from_there k.from_there)
      (near_once system valid to h.near k.near h.to_there k.to_there) a h.common k.none

  four_once : (peak : PlacedPeak) (a b : FourPaths) → IsFirstFour system.rules peak a → IsFirstFour system.rules peak b → a ≡ b
  four_once peak a b h k =
      ap₂ four_of (half_once peak.left peak.right (join_of a.left_u a.right_u) (join_of b.left_u b.right_u) h.from_left k.from_left)
      (half_once peak.right peak.left (join_of a.right_v a.left_v) (join_of b.right_v b.left_v) h.from_right k.from_right)

  four_or_none : (peak : PlacedPeak) (a : FourPaths) → IsFirstFour system.rules peak a → HasNoFour system.rules peak → ⊥
  four_or_none peak a h (none_from_left none) = half_or_none peak.left peak.right (join_of a.left_u a.right_u) h.from_left none
  four_or_none peak a h (none_from_right none) = half_or_none peak.right peak.left (join_of a.right_v a.left_v) h.from_right none

  pub strong_once : (peaks : List PlacedPeak) (a b : List FourPaths) → FindsStrong system.rules peaks a → FindsStrong system.rules peaks b → a ≡ b
  strong_once peaks a b h k = along_once (IsFirstFour system.rules) four_once h.joined k.joined

  pub strong_not_failed : (peaks : List PlacedPeak) (a : List FourPaths) → FindsStrong system.rules peaks a → FailsStrong system.rules peaks → ⊥
  strong_not_failed peaks a h (not_linear bent) = bent h.linear
  strong_not_failed peaks a h (not_joined (peak, there, none)) =
      let (four, joins) = along_at (IsFirstFour system.rules) h.joined there in
      four_or_none peak four joins none
