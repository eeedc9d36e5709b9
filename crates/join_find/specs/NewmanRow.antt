-- The strategy newman: both sides of each peak reach one term. (Knuth and Bendix; Baader and Nipkow, section 6.2.)
use Rattle.std.specs.Prelude.{List}
use Rattle.trs_defs.specs.Tree.{Tree}
use Rattle.trs_defs.specs.System.{RewriteRule}
use Rattle.term_pool.specs.Listed.{Listed}
use Rattle.term_pool.specs.Reach.{IsReachList}
use Rattle.rewrite_core.specs.PlacedPeak.{PlacedPeak}
use Rattle.rewrite_core.specs.PathsOfJoin.{PathsOfJoin}
use Rattle.join_find.specs.First.{Some_in, Along}
use Rattle.join_find.specs.Common.{IsFirstCommon, HasNoCommon}

-- what a side of a peak reaches in up to 16 steps, up to 256 terms of up to 4,096 nodes
abbrev pub IsReach : List RewriteRule → Tree → List Listed → Type 0
IsReach rules t es = IsReachList rules t 16 256 4096 es

-- the first term that the left reaches among those that the right reaches, with the listed paths
pub record IsFirstJoin (rules : List RewriteRule) (peak : PlacedPeak) (join : PathsOfJoin) : Type 0 where
  pub lefts : List Listed
  pub rights : List Listed
  pub from_left : IsReach rules peak.left lefts
  pub from_right : IsReach rules peak.right rights
  pub common : IsFirstCommon lefts rights join

-- no term is reached from both sides
pub record HasNoJoin (rules : List RewriteRule) (peak : PlacedPeak) : Type 0 where
  pub lefts : List Listed
  pub rights : List Listed
  pub from_left : IsReach rules peak.left lefts
  pub from_right : IsReach rules peak.right rights
  pub none : HasNoCommon lefts rights

abbrev pub FindsNewman : List RewriteRule → List PlacedPeak → List PathsOfJoin → Type 0
FindsNewman rules peaks joins = Along (IsFirstJoin rules) peaks joins

abbrev pub FailsNewman : List RewriteRule → List PlacedPeak → Type 0
FailsNewman rules peaks = Some_in (HasNoJoin rules) peaks
