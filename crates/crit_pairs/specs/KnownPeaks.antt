-- What is known of the peaks of equal inner rules at one position.
use Rattle.std.specs.Prelude.{◌≡◌, ℕ, List, Option, Some, IsTrue, slice_get}
use Rattle.trs_defs.specs.Tree.{Tree}
use Rattle.trs_defs.specs.System.{RewriteRule}
use Rattle.rewrite_core.specs.PlacedPeak.{PlacedPeak}
use Rattle.crit_pairs.specs.PeakList.{Spot, OverlapsAt, IsPeakAt, is_small, nodes_of_peak}
use Rattle.crit_pairs.specs.MadePairs.{spot}
use Rattle.crit_pairs.specs.Table.{IsPair}
use Rattle.crit_pairs.specs.declared.table.PeakPair.{PeakPair}
use Rattle.crit_pairs.specs.declared.known_peak.KnownPeak.{KnownPeak}
use Rattle.crit_pairs.specs.declared.known_peak.KnownPeak.TheVariants as known

-- the critical peak at the spot keeps the limits, has so many nodes, and the ids stand for its two results
pub record HasPair (rules : List RewriteRule) (s : Spot) (pool : List Tree) (pair : PeakPair) (nodes : ℕ) : Type 0 where
  pub peak : PlacedPeak
  pub at : IsPeakAt rules s peak
  pub small : IsTrue (is_small peak)
  pub stands : IsPair pool pair peak
  pub counted : nodes ≡ nodes_of_peak peak

-- this is known of each rule that equals the inner one, at a position of rule number j
abbrev pub Knows : List RewriteRule → ℕ → List ℕ → Option RewriteRule → List Tree → KnownPeak → Type 0
Knows rules j p inner pool known.Unknown = Unit {0}
Knows rules j p inner pool known.Absent = (i : ℕ) → slice_get rules i ≡ inner → OverlapsAt rules (spot j p i) → ⊥
Knows rules j p inner pool (known.Made pair nodes) = (i : ℕ) → slice_get rules i ≡ inner → HasPair rules (spot j p i) pool pair nodes

-- this is known of the rules by their numbers
abbrev pub KnowsEach : List RewriteRule → ℕ → List ℕ → List Tree → List KnownPeak → Type 0
KnowsEach rules j p pool known = (k : ℕ) (x : KnownPeak) → slice_get known k ≡ Some x → Knows rules j p (slice_get rules k) pool x
