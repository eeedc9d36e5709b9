-- Joins of a peak.
use Rattle.std.specs.Prelude.{◌<◌, All, List, length, IfOk, MatchOption, Result, Ok, Err, Option, Some, None}
use Rattle.trs_defs.specs.Tree.{Tree}
use Rattle.trs_defs.specs.System.{RewriteRule}
use Rattle.term_pool.specs.Pooled.{AreDistinct}
use Rattle.term_pool.specs.Listed.{Listed}
use Rattle.term_pool.specs.ListedIds.{listed_at}
use Rattle.rewrite_core.specs.PlacedPeak.{PlacedPeak}
use Rattle.rewrite_core.specs.PathsOfJoin.{PathsOfJoin}
use Rattle.join_find.specs.Common.{IsFirstCommon, HasNoCommon}
use Rattle.join_find.specs.CommonIds.{Reached, HasNoCommonId, IsFirstCommonId}
use Rattle.join_find.specs.NewmanRow.{IsReach, IsFirstJoin, HasNoJoin}
use Rattle.join_find.specs.StrongRow.{IsFirstHalf, HasNoHalf}
use Rattle.join_find.specs.Near.{IsSiftedNear}
use Rattle.join_find.proofs.NearTerms.{halves_of}
use Rattle.join_find.proofs.SharedIds.{all_sifted, common_answer}

joins_of : {E : Type 0} (rules : List RewriteRule) (peak : PlacedPeak) (lefts rights : List Listed) (found : Result (Option PathsOfJoin) E) → IsReach rules peak.left lefts → IsReach rules peak.right rights
    → IfOk found (λ o. MatchOption o (HasNoCommon lefts rights) (IsFirstCommon lefts rights))
    → IfOk found (λ o. MatchOption o (HasNoJoin rules peak) (IsFirstJoin rules peak))
joins_of rules peak lefts rights (Ok None) from_left from_right h = record { lefts = lefts; rights = rights; from_left = from_left; from_right = from_right; none = h }
joins_of rules peak lefts rights (Ok (Some join)) from_left from_right h = record { lefts = lefts; rights = rights; from_left = from_left; from_right = from_right; common = h }
joins_of rules peak lefts rights (Err e) from_left from_right h = tt

-- what was found in common of two lists of one pool
module _ {E : Type 0} (rules : List RewriteRule) (pool : List Tree) (distinct : AreDistinct pool) (lefts rights : List Reached)
    (below : All (λ e. e.0 < length pool) lefts) (found : Result (Option PathsOfJoin) E)
    (h : IfOk found (λ o. MatchOption o (HasNoCommonId lefts rights) (IsFirstCommonId lefts rights))) where
  -- of what both sides of a peak reached
  pub joined_within : (peak : PlacedPeak) → All (λ e. e.0 < length pool) rights → IsReach rules peak.left (listed_at pool lefts) → IsReach rules peak.right (listed_at pool rights)
      → IfOk found (λ o. MatchOption o (HasNoJoin rules peak) (IsFirstJoin rules peak))
  joined_within peak rights_below from_left from_right =
      joins_of rules peak (listed_at pool lefts) (listed_at pool rights) found from_left from_right
      (common_answer pool distinct lefts rights (listed_at pool rights) found below (all_sifted pool rights rights_below) h)

  -- of what one side reached, and of the other with its reducts
  pub halved_within : (from to : Tree) → IsReach rules from (listed_at pool lefts) → IsSiftedNear rules to pool rights
      → IfOk found (λ o. MatchOption o (HasNoHalf rules from to) (IsFirstHalf rules from to))
  halved_within from to from_there near =
      halves_of rules from to (listed_at pool lefts) near.near found from_there near.are_near
      (common_answer pool distinct lefts rights near.near found below near.sifted h)
