-- Peaks in a pool of their own, while it grows and is cut back.
use Rattle.std.proofs.Common.{◌≡◌, ◌<◌, ◌≤◌, ℕ, List, Some, IfSome, IsTrue, Option, length, take, get_or, slice_get, refl, ap, sym, ◌∙◌, subst, arith}
use Rattle.std.specs.Prelude.{◌↔◌, ◌==◌}
use Rattle.std.proofs.lemmas.Bool.Decides.{nat_tests}
use Rattle.std.proofs.lemmas.List.{take_all, take-take, length-take-le}
use Rattle.std.proofs.lemmas.Option.{slice_get_read}
use Rattle.trs_defs.specs.Tree.{Tree}
use Rattle.trs_defs.specs.System.{RewriteRule}
use Rattle.term_pool.specs.Pooled.{AreDistinct, Extends, StandsFor, tree_at}
use Rattle.term_pool.proofs.Extending.{cut_back, same_tree_at}
use Rattle.term_pool.proofs.PoolTrees.{taken_item, stands, stands_at, stands_within}
use Rattle.rewrite_core.specs.PlacedPeak.{PlacedPeak}
use Rattle.crit_pairs.specs.PeaksCheck.{listed}
use Rattle.crit_pairs.specs.Table.{ArePairs, HasPeaks, AreAllPairs}
use Rattle.crit_pairs.specs.PooledPeaks.{HoldsPeaks, ArePooled, AreSides}
use Rattle.crit_pairs.specs.declared.pooled.PooledPeaks.{PooledPeaks}
use Rattle.crit_pairs.specs.declared.table.PeakPair.{PeakPair}
use Rattle.crit_pairs.specs.declared.table.PeakTable.{PeakTable}
use Rattle.crit_pairs.proofs.TableLaws.{pairs_count, pair_of_peak}

-- ids below a mark in a longer pool
pub kept_below : (n : ℕ) (pool next : List Tree) → Extends pool next → n ≤ length pool → take n next ≡ take n pool
kept_below n pool next more h = sym (take-take n (length pool) next h) ∙ ap (λ ts. take n ts) (cut_back pool next more)

-- the table that has grown, where there is one
pub table_there : (grown : Option PeakTable) (table : PeakTable) (others rules : List RewriteRule) (pool : List Tree) → grown ≡ Some table → others ≡ rules → IfSome grown (HasPeaks others pool) → HasPeaks rules pool table
table_there grown table others rules pool is same h =
    let O : Option PeakTable → Type 0 = λ o. IfSome o (HasPeaks others pool) in
    let R : List RewriteRule → Type 0 = λ rs. HasPeaks rs pool table in
    subst R same (subst O is h)

-- all pairs of a pool
pub pooled : (rules : List RewriteRule) (peaks : PooledPeaks) → AreAllPairs rules peaks.pool peaks.pairs.items → peaks.base ≡ length peaks.pool → ArePooled rules peaks
pooled rules peaks h base =
    let whole : take peaks.base peaks.pool ≡ peaks.pool = take_all peaks.base peaks.pool (omega (arith, base)) in
    let P : List Tree → Type 0 = λ ts. ArePairs ts peaks.pairs.items h.peaks in
    record {
      peaks = h.peaks;
      lists = listed h.peaks h.lists;
      held = record { count = pairs_count h.stand; within = omega (arith, base); stand = subst P (sym whole) h.stand };
    }

-- what is below the base is the same, and so are the pairs
held_on : (peaks : List PlacedPeak) (old new : PooledPeaks) → new.pairs.items ≡ old.pairs.items → new.base ≤ length new.pool → take new.base new.pool ≡ take old.base old.pool → HoldsPeaks peaks old
    → HoldsPeaks peaks new
held_on peaks old new pairs within same h =
    let P : List Tree → Type 0 = λ ts. ArePairs ts old.pairs.items peaks in
    let Q : List PeakPair → Type 0 = λ xs. ArePairs (take new.base new.pool) xs peaks in
    record { count = ap length pairs ∙ h.count; within = within; stand = subst Q (sym pairs) (subst P (sym same) h.stand) }

-- the pool grows
pub held_longer : (peaks : List PlacedPeak) (old new : PooledPeaks) → new.pairs.items ≡ old.pairs.items → new.base ≡ old.base → Extends old.pool new.pool → HoldsPeaks peaks old → HoldsPeaks peaks new
held_longer peaks old new pairs base more h =
    held_on peaks old new pairs (omega (arith, base, h.within, more.longer))
    (ap (λ n. take n new.pool) base ∙ kept_below old.base old.pool new.pool more h.within) h

pub ids_longer : (old new : List Tree) → Extends old new → (id : ℕ) → id < length old → (id < length new) × (tree_at new id ≡ tree_at old id)
ids_longer old new more id there = (omega (arith, there, more.longer), same_tree_at old new more id there)

-- the pool is cut back to the base
pub held_cut : (peaks : List PlacedPeak) (old new : PooledPeaks) → new.pairs.items ≡ old.pairs.items → new.base ≡ old.base → new.pool ≡ take old.base old.pool → HoldsPeaks peaks old → HoldsPeaks peaks new
held_cut peaks old new pairs base pool h =
    held_on peaks old new pairs (omega (arith, base, ap length pool, length-take-le old.base old.pool h.within))
    (ap (λ n. take n new.pool) base ∙ (ap (λ ts. take old.base ts) pool ∙ take-take old.base old.base old.pool (omega arith))) h

-- ids of equal trees are equal
pub same_ids : (pool : List Tree) (a b : ℕ) → AreDistinct pool → a < length pool → b < length pool → IsTrue (a == b) ↔ (tree_at pool a ≡ tree_at pool b)
same_ids pool a b distinct first second = (
  λ e. (let same : a ≡ b = grind (arith, nat_tests, e) in ap (tree_at pool) same),
  λ e. (
      let same : a ≡ b = distinct.same a b (tree_at pool b) (subst (StandsFor pool a) e (stands pool a first)) (stands pool b second) in
      grind (arith, nat_tests, same)),
)

-- the pair of a peak
pub sides_there : (peaks : List PlacedPeak) (p : PlacedPeak) (held : PooledPeaks) (n : ℕ) (pair : PeakPair) → pair ≡ get_or held.pairs.items n pair → n < length held.pairs.items → HoldsPeaks peaks held
    → slice_get peaks n ≡ Some p → AreSides held pair p
sides_there peaks p held n pair read less h there =
    let is = pair_of_peak h.stand n pair p (slice_get_read held.pairs.items (length held.pairs.items) n pair refl less read) there in
    let left : StandsFor held.pool pair.left p.left = taken_item held.base held.pool pair.left p.left is.0 in
    let right : StandsFor held.pool pair.right p.right = taken_item held.base held.pool pair.right p.right is.1 in
    record {
      left_there = stands_within held.pool pair.left p.left left;
      left = stands_at held.pool pair.left p.left left;
      right_there = stands_within held.pool pair.right p.right right;
      right = stands_at held.pool pair.right p.right right;
    }
