-- Peaks and the pairs that stand for them, by their numbers.
use Rattle.std.specs.Prelude.{◌≡◌, ◌<◌, ℕ, List, length, Some, get_or, slice_get}
use Rattle.std.proofs.Common.{sym, subst}
use Rattle.std.proofs.lemmas.Option.{get_or_from_slice_get}
use Rattle.trs_defs.specs.Tree.{Tree}
use Rattle.trs_defs.specs.Member.{In}
use Rattle.trs_defs.proofs.Members.{in_of_get}
use Rattle.trs_defs.proofs.ListItems.{item_there}
use Rattle.term_pool.specs.Pooled.{StandsFor, tree_at}
use Rattle.term_pool.proofs.PoolTrees.{stands_at, stands_within}
use Rattle.rewrite_core.specs.PlacedPeak.{PlacedPeak}
use Rattle.closed_pairs.specs.crit_pairs.Table.{IsPair}
use Rattle.closed_pairs.specs.crit_pairs.PeakPairs.{HoldPairsOf}
use Rattle.closed_pairs.specs.crit_pairs.declared.table.PeakPair.{PeakPair}
use Rattle.closed_pairs.specs.crit_pairs.declared.peak_pairs.PeakPairs.{PeakPairs}
use Rattle.join_find.specs.Sides.{IsSide, IsSideAt}

-- the peak of this number, and its pair
pub record IsPeakOf (pool : List Tree) (peaks : List PlacedPeak) (n : ℕ) (pair : PeakPair) : Type 0 where
  pub peak : PlacedPeak
  pub within : In peak peaks
  pub read : peak ≡ get_or peaks n peak
  pub stand : IsPair pool pair peak

pub peak_of : (pairs : PeakPairs) (peaks : List PlacedPeak) (n : ℕ) (pair : PeakPair) → n < length peaks → HoldPairsOf pairs peaks
    → ((peaks : List PlacedPeak) (p : PlacedPeak) → HoldPairsOf pairs peaks → slice_get peaks n ≡ Some p → IsPair pairs.pool pair p) → IsPeakOf pairs.pool peaks n pair
peak_of pairs peaks n pair below hold is =
    let (p, there) = item_there peaks n below in
    record { peak = p; within = in_of_get peaks n p there; read = sym (get_or_from_slice_get peaks n p p there); stand = is peaks p hold there }

-- a side that stands there
pub side_at : (pool : List Tree) (id : ℕ) (t : Tree) → StandsFor pool id t → IsSide t → IsSideAt pool id
side_at pool id t is side = record { there = stands_within pool id t is; side = subst IsSide (sym (stands_at pool id t is)) side }

-- it stands in another pool, too
pub stands_too : (from pool : List Tree) (id own : ℕ) (t : Tree) → StandsFor from id t → StandsFor pool own (tree_at from id) → StandsFor pool own t
stands_too from pool id own t is there = subst (λ u. StandsFor pool own u) (stands_at from id t is) there
