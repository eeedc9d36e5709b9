-- The tops of critical peaks at the root, which inner rules with equal left sides have in common.
use Rattle.std.specs.Prelude.{◌≡◌, ℕ, ◌+◌, List, Option, Some, IsTrue, slice_get}
use Rattle.trs_defs.specs.Tree.{Tree}
use Rattle.trs_defs.specs.Size.{size_of}
use Rattle.trs_defs.specs.System.{RewriteRule}
use Rattle.rewrite_core.specs.PlacedPeak.{PlacedPeak}
use Rattle.crit_pairs.specs.EqualLefts.{left_side}
use Rattle.crit_pairs.specs.PeakList.{IsPeakAt, is_small}
use Rattle.crit_pairs.specs.MadePairs.{spot}
use Rattle.crit_pairs.specs.declared.repeated_tops.RepeatedTop.{RepeatedTop}

-- the peak, of another inner rule and with its left result
abbrev pub beside : ℕ → Tree → PlacedPeak → PlacedPeak
beside k left p = record { outer = p.outer; place = p.place; inner = k; top = p.top; left = left; right = p.right }

-- At the position of rule number j there is a critical peak of an inner rule with this left side, which keeps the limits.
-- Its top and its right have so many nodes, and it has this number in the list unless it was only counted
pub record IsTopAt (rules : List RewriteRule) (j : ℕ) (p : List ℕ) (left : Option Tree) (list : List PlacedPeak) (top : RepeatedTop) : Type 0 where
  pub inner : ℕ
  pub equal : left_side (slice_get rules inner) ≡ left
  pub peak : PlacedPeak
  pub at : IsPeakAt rules (spot j p inner) peak
  pub small : IsTrue (is_small peak)
  pub counted : top.nodes ≡ size_of peak.top + size_of peak.right
  pub listed : (n : ℕ) → top.number ≡ Some n → slice_get list n ≡ Some peak

abbrev pub AreTops : List RewriteRule → ℕ → List ℕ → List PlacedPeak → List RepeatedTop → Type 0
AreTops rules j p list noted = (k : ℕ) (found : RepeatedTop) → slice_get noted k ≡ Some found → IsTopAt rules j p (left_side (slice_get rules found.first)) list found
