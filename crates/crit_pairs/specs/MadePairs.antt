-- The pair of one critical peak, as it is made.
use Rattle.std.specs.Prelude.{◌≡◌, ◌≤◌, ℕ, ◌+◌, List, Some, IsTrue, slice_get}
use Rattle.trs_defs.specs.Tree.{Tree}
use Rattle.trs_defs.specs.Size.{size_of, within_limits}
use Rattle.trs_defs.specs.Position.{subterm_at}
use Rattle.trs_defs.specs.System.{RewriteRule}
use Rattle.trs_defs.specs.Unifier.{IsMostGeneralUnifier}
use Rattle.rewrite_core.specs.PlacedPeak.{PlacedPeak}
use Rattle.crit_pairs.specs.Apart.{renamed_apart}
use Rattle.crit_pairs.specs.PeakList.{Spot, IsPeakAt, is_small, nodes_of_peak}
use Rattle.crit_pairs.specs.Table.{IsPair}
use Rattle.crit_pairs.specs.declared.making.MadePair.{MadePair}

abbrev pub spot : ℕ → List ℕ → ℕ → Spot
spot j p i = record { outer = j; place = p; inner = i }

-- at the spot this is a most general unifier of the part of the outer left side and the inner left side, renamed apart
pub record UnifiesAt (rules : List RewriteRule) (s : Spot) (unifier : ℕ → Tree) : Type 0 where
  pub inner : RewriteRule
  pub outer : RewriteRule
  pub part : Tree
  pub inner_numbered : slice_get rules s.inner ≡ Some inner
  pub outer_numbered : slice_get rules s.outer ≡ Some outer
  pub there : subterm_at s.place outer.left ≡ Some part
  pub most_general : IsMostGeneralUnifier part (renamed_apart inner).left unifier

-- the results of the critical peak at the spot, which keeps the limits, and the nodes of all peaks with its own
pub record IsMade (rules : List RewriteRule) (s : Spot) (pool : List Tree) (nodes : ℕ) (made : MadePair) : Type 0 where
  pub peak : PlacedPeak
  pub at : IsPeakAt rules s peak
  pub small : IsTrue (is_small peak)
  pub stands : IsPair pool made.pair peak
  pub counted : made.nodes ≡ nodes + nodes_of_peak peak
  pub few : made.nodes ≤ 4194304

-- the top keeps the limits on computed terms, and its nodes and those of both results come to those before
pub record CountsTop (top : Tree) (left right nodes total : ℕ) : Type 0 where
  pub small : IsTrue (within_limits top)
  pub counted : total ≡ nodes + (size_of top + left + right)
  pub few : total ≤ 4194304
