-- Pairs of peaks in a pool: they are read, and one more comes to them.
use Rattle.std.proofs.Common.{◌≡◌, ◌≢◌, ◌<◌, ℕ, List, [], ◌∷◌, ◌++◌, length, get_or, slice_get, Some, None, IfSome, sym, ap, ◌∙◌, subst, arith}
use Rattle.std.proofs.lemmas.Option.{same_Some, slice_get_within, slice_get-get_or}
use Rattle.trs_defs.specs.Tree.{Tree}
use Rattle.trs_defs.specs.System.{RewriteRule}
use Rattle.term_pool.specs.Pooled.{StandsFor, tree_at}
use Rattle.term_pool.proofs.PoolTrees.{stands}
use Rattle.rewrite_core.specs.PlacedPeak.{PlacedPeak}
use Rattle.crit_pairs.specs.Table.{IsPair, ArePairs, no_pair, one_pair}
use Rattle.crit_pairs.specs.PooledTerms.{ArePooledRules, HoldSides}
use Rattle.crit_pairs.specs.declared.pooled_rules.PooledRules.{PooledRules}
use Rattle.crit_pairs.specs.declared.pooled_terms.PooledTerms.{PooledTerms}
use Rattle.crit_pairs.specs.declared.table.PeakPair.{PeakPair}
use Rattle.crit_pairs.proofs.TableLaws.{pairs_both, pairs_count, peak_of_pair}

-- the pair of a peak, as it is read
pub pair_read : (rules : List RewriteRule) (peaks : List PlacedPeak) (terms : PooledTerms) (n : ℕ) (p : PlacedPeak) (x : PeakPair) → HoldSides rules peaks terms → slice_get peaks n ≡ Some p
    → x ≡ get_or terms.pairs.items n x → IsPair terms.pool x p
pair_read rules peaks terms n p x holds at read =
    let within : n < length terms.pairs.items = omega (arith, slice_get_within peaks n p at, pairs_count holds.pairs) in
    let there : slice_get terms.pairs.items n ≡ Some x = slice_get-get_or terms.pairs.items n x within ∙ ap (λ z. Some z) (sym read) in
    let (q, numbered, is) = peak_of_pair holds.pairs n x there in
    let same : q ≡ p = same_Some q p (sym numbered ∙ at) in
    subst (IsPair terms.pool x) same is

pub pair_there : (rules : List RewriteRule) (peaks : List PlacedPeak) (terms : PooledTerms) (n : ℕ) (p : PlacedPeak) → HoldSides rules peaks terms → slice_get peaks n ≡ Some p → n < length terms.pairs.items
pair_there rules peaks terms n p holds at = omega (arith, slice_get_within peaks n p at, pairs_count holds.pairs)

-- where there is a peak, the sides of the rules are there
pub sides_there : (rules : List RewriteRule) (peaks : List PlacedPeak) (terms : PooledTerms) (n : ℕ) (p : PlacedPeak) → HoldSides rules peaks terms → slice_get peaks n ≡ Some p → terms.sides ≢ None
sides_there rules peaks terms n p holds at none = absurd (omega (arith, slice_get_within peaks n p at, ap length (holds.none none)))

pub sides_read : (rules : List RewriteRule) (peaks : List PlacedPeak) (terms : PooledTerms) (sides : PooledRules) → HoldSides rules peaks terms → terms.sides ≡ Some sides
    → ArePooledRules rules terms.pool sides
sides_read rules peaks terms sides holds is = subst (λ o. IfSome o (ArePooledRules rules terms.pool)) is holds.sides

-- the id stands for this term too
pub stands_as : (pool : List Tree) (id : ℕ) (t : Tree) → id < length pool → t ≡ tree_at pool id → StandsFor pool id t
stands_as pool id t there is = subst (StandsFor pool id) (sym is) (stands pool id there)

pub one_pair_more : (pool : List Tree) (xs new : List PeakPair) (ps : List PlacedPeak) (x : PeakPair) (p : PlacedPeak) → new ≡ xs ++ x ∷ [] → ArePairs pool xs ps
    → x.left < length pool → x.right < length pool → p.left ≡ tree_at pool x.left → p.right ≡ tree_at pool x.right → ArePairs pool new (ps ++ p ∷ [])
one_pair_more pool xs new ps x p put h left_there right_there left right =
    let is : IsPair pool x p = (stands_as pool x.left p.left left_there left, stands_as pool x.right p.right right_there right) in
    subst (λ l. ArePairs pool l (ps ++ p ∷ [])) (sym put) (pairs_both h (one_pair is no_pair))
