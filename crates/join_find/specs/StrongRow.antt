-- The strategy strong: each side of each peak reaches a term that the other side is, or reaches in one step.
-- (Huet, Confluent reductions, 1980.)
use Rattle.std.specs.Prelude.{◌≡◌, List, [], ◌∷◌}
use Rattle.trs_defs.specs.Member.{In}
use Rattle.trs_defs.specs.Tree.{Tree}
use Rattle.trs_defs.specs.Variable.{IsLinear}
use Rattle.trs_defs.specs.System.{RewriteRule}
use Rattle.trs_defs.specs.Path.{PlacedRule}
use Rattle.term_pool.specs.Redexes.{HasRedexes}
use Rattle.term_pool.specs.Listed.{Listed}
use Rattle.term_pool.specs.Reach.{AreReducts}
use Rattle.rewrite_core.specs.PlacedPeak.{PlacedPeak}
use Rattle.rewrite_core.specs.PathsOfJoin.{PathsOfJoin}
use Rattle.closed_pairs.specs.StronglyClosed.{FourPaths}
use Rattle.join_find.specs.First.{Some_in, Along}
use Rattle.join_find.specs.Common.{IsFirstCommon, HasNoCommon}
use Rattle.join_find.specs.NewmanRow.{IsReach}

-- the term with no step
abbrev pub itself : Tree → Listed
itself t = record { term = t; path = [] }

-- the term, and after it its reducts within the limits, by its redexes in order
pub record IsNearList (rules : List RewriteRule) (t : Tree) (es : List Listed) : Type 0 where
  pub redexes : List PlacedRule
  pub reducts : List Listed
  pub are_redexes : HasRedexes rules t redexes
  pub are_reducts : AreReducts rules 65536 (itself t) redexes reducts
  pub listed : es ≡ itself t ∷ reducts

-- the first term that `from` reaches and that `to` is, or reaches in one step; no step is preferred to one
pub record IsFirstHalf (rules : List RewriteRule) (from to : Tree) (paths : PathsOfJoin) : Type 0 where
  pub reached : List Listed
  pub near : List Listed
  pub from_there : IsReach rules from reached
  pub to_there : IsNearList rules to near
  pub common : IsFirstCommon reached near paths

-- `from` reaches no term that `to` is, or reaches in one step
pub record HasNoHalf (rules : List RewriteRule) (from to : Tree) : Type 0 where
  pub reached : List Listed
  pub near : List Listed
  pub from_there : IsReach rules from reached
  pub to_there : IsNearList rules to near
  pub none : HasNoCommon reached near

-- a half from the left and one from the right
pub record IsFirstFour (rules : List RewriteRule) (peak : PlacedPeak) (four : FourPaths) : Type 0 where
  pub from_left : IsFirstHalf rules peak.left peak.right (record { left = four.left_u; right = four.right_u })
  pub from_right : IsFirstHalf rules peak.right peak.left (record { left = four.right_v; right = four.left_v })

-- one of the halves is missing
pub data HasNoFour (rules : List RewriteRule) (peak : PlacedPeak) : Type 0 where
  none_from_left : HasNoHalf rules peak.left peak.right → HasNoFour rules peak
  none_from_right : HasNoHalf rules peak.right peak.left → HasNoFour rules peak

-- both sides of each rule are linear
pub record AreLinear (rules : List RewriteRule) : Type 0 where
  pub each : (rule : RewriteRule) → In rule rules → IsLinear rule.left × IsLinear rule.right

pub record FindsStrong (rules : List RewriteRule) (peaks : List PlacedPeak) (fours : List FourPaths) : Type 0 where
  pub linear : AreLinear rules
  pub joined : Along (IsFirstFour rules) peaks fours

-- some side of a rule is not linear, or a half of a peak is missing
pub data FailsStrong (rules : List RewriteRule) (peaks : List PlacedPeak) : Type 0 where
  not_linear : (AreLinear rules → ⊥) → FailsStrong rules peaks
  not_joined : Some_in (HasNoFour rules) peaks → FailsStrong rules peaks
