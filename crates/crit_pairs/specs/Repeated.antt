-- Critical peaks that are added, and those of equal inner rules at one position.
use Rattle.std.specs.Prelude.{◌≡◌, ℕ, List, ◌++◌, Option, Some, IsTrue, slice_get}
use Rattle.trs_defs.specs.System.{RewriteRule}
use Rattle.rewrite_core.specs.PlacedPeak.{PlacedPeak}
use Rattle.crit_pairs.specs.PeakList.{Spot, IsPeakAt, is_small, nodes_of_peak}
use Rattle.crit_pairs.specs.MadePairs.{spot}
use Rattle.crit_pairs.specs.declared.repeated.AddedPeak.{AddedPeak}
use Rattle.crit_pairs.specs.declared.repeated.RepeatedPeak.{RepeatedPeak}

-- the peak, of another inner rule
abbrev pub moved_to : ℕ → PlacedPeak → PlacedPeak
moved_to k p = record { outer = p.outer; place = p.place; inner = k; top = p.top; left = p.left; right = p.right }

-- the critical peak at the spot keeps the limits, has so many nodes, and has this number in the list unless it was only counted
pub record IsAdded (rules : List RewriteRule) (s : Spot) (list : List PlacedPeak) (added : AddedPeak) : Type 0 where
  pub peak : PlacedPeak
  pub at : IsPeakAt rules s peak
  pub small : IsTrue (is_small peak)
  pub counted : added.nodes ≡ nodes_of_peak peak
  pub listed : (n : ℕ) → added.number ≡ Some n → slice_get list n ≡ Some peak

-- it was added at the position of rule number j for an inner rule that equals this one
pub record IsRepeated (rules : List RewriteRule) (j : ℕ) (p : List ℕ) (rule : Option RewriteRule) (list : List PlacedPeak) (known : AddedPeak) : Type 0 where
  pub inner : ℕ
  pub equal : slice_get rules inner ≡ rule
  pub added : IsAdded rules (spot j p inner) list known

abbrev pub AreRepeated : List RewriteRule → ℕ → List ℕ → List PlacedPeak → List RepeatedPeak → Type 0
AreRepeated rules j p list noted = (k : ℕ) (found : RepeatedPeak) → slice_get noted k ≡ Some found → IsRepeated rules j p (slice_get rules found.first) list found.added

-- the new list begins with the old one
abbrev pub IsLonger : List PlacedPeak → List PlacedPeak → Type 0
IsLonger old new = (more : List PlacedPeak) × (new ≡ old ++ more)
