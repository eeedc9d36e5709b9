-- The pairs of a table of peaks, as completion goes through them.
use Rattle.std.proofs.Common.{◌≡◌, ◌<◌, ◌≤◌, ℕ, ◌+◌, zero, suc, List, [], ◌∷◌, ◌++◌, map, drop, take, length, Option, Some, IfSome, Result, Ok, Err, OnOk, slice_get, sym, ap, subst, arith, ◌∙◌, append_assoc, append-nil}
use Rattle.std.proofs.lemmas.Option.{slice_get_within}
use Rattle.trs_defs.specs.Tree.{Tree}
use Rattle.trs_defs.specs.System.{RewriteRule, System, IsSystem}
use Rattle.trs_defs.proofs.Members.{in_of_get}
use Rattle.trs_defs.proofs.ListItems.{next_item}
use Rattle.term_pool.specs.Pooled.{Extends, StandsFor, tree_at}
use Rattle.term_pool.proofs.PoolTrees.{stands_at}
use Rattle.term_pool.proofs.Extending.{extends_on}
use Rattle.rewrite_core.specs.PlacedPeak.{PlacedPeak}
use Rattle.crit_pairs.specs.PeakList.{ListsPeaks}
use Rattle.crit_pairs.specs.Table.{ArePairs, HasPeaks, HasFirstPeaks}
use Rattle.crit_pairs.specs.declared.table.PeakPair.{PeakPair}
use Rattle.crit_pairs.specs.declared.table.PeakTable.{PeakTable}
use Rattle.crit_pairs.proofs.TableLaws.{has_still, peak_of_pair}
use Rattle.completion.specs.declared.met.Met.{Met}
use Rattle.completion.specs.CompletionRun.{sides}
use Rattle.completion.specs.MetTerms.{KeepsBase}
use Rattle.completion.specs.Taking.{IsIdOver}
use Rattle.completion.specs.Treating.{pair_of}
use Rattle.completion.proofs.PeakPairs.{peaks_good}
use Rattle.completion.proofs.MetLaws.{id_over, cut_no_longer, base_kept}

-- ---- tables

pub all_peaks_there : (rules : List RewriteRule) (pool : List Tree) (table : PeakTable) → HasPeaks rules pool table → HasFirstPeaks rules pool table
all_peaks_there rules pool table h = record { first = rules; more = []; are = sym (append-nil rules); has = h }

pub first_still : (rules : List RewriteRule) (pool next : List Tree) (table : PeakTable) → Extends pool next → HasFirstPeaks rules pool table → HasFirstPeaks rules next table
first_still rules pool next table more h = record { first = h.first; more = h.more; are = h.are; has = has_still h.first pool next table more h.has }

-- one rule more
pub table_goes_on : (rules others : List RewriteRule) (r : RewriteRule) (old new : Met) {table : PeakTable} → HasFirstPeaks rules (take old.base old.pool) table → Extends (take old.base old.pool) (take new.base new.pool)
    → others ≡ rules ++ r ∷ [] → HasFirstPeaks others (take new.base new.pool) table
table_goes_on rules others r old new {table = table} h more is = record {
  first = h.first;
  more = h.more ++ r ∷ [];
  are = is ∙ (ap (λ rs. rs ++ r ∷ []) h.are ∙ append_assoc h.first h.more (r ∷ []));
  has = has_still h.first (take old.base old.pool) (take new.base new.pool) table more h.has;
}

-- ---- pairs

pub pairs_left : (peaks : List PlacedPeak) (k : ℕ) (p : PlacedPeak) → slice_get peaks k ≡ Some p → map sides (drop k peaks) ≡ sides p ∷ map sides (drop (k + 1) peaks)
pairs_left peaks k p there = ap (map sides) (next_item peaks k p there)

-- ---- what is below the base

item_taken : (n : ℕ) (pool : List Tree) (i : ℕ) (t : Tree) → i < n → slice_get pool i ≡ Some t → slice_get (take n pool) i ≡ Some t
item_taken zero pool i t h e = absurd (omega (arith, h))
item_taken (suc n) [] i t h e = e
item_taken (suc n) (x ∷ pool) zero t h e = e
item_taken (suc n) (x ∷ pool) (suc i) t h e = item_taken n pool i t (omega (arith, h)) e

taken_longer : (n : ℕ) (a b : List Tree) → length (take n a) ≤ length b → length (take n a) ≤ length (take n b)
taken_longer zero a b h = omega arith
taken_longer (suc n) [] b h = omega arith
taken_longer (suc n) (x ∷ a) [] h = h
taken_longer (suc n) (x ∷ a) (y ∷ b) h = omega (arith, taken_longer n a b (omega (arith, h)))

pub cut_within : (n : ℕ) (pool next : List Tree) → Extends (take n pool) next → Extends (take n pool) (take n next)
cut_within n pool next more = record {
  longer = taken_longer n pool next more.longer;
  kept = λ i t e. item_taken n next i t (omega (arith, slice_get_within (take n pool) i t e, cut_no_longer n pool)) (more.kept i t e);
}

pub keeps_on : (a b c : Met) → KeepsBase a b → KeepsBase b c → KeepsBase a c
keeps_on a b c h k =
    let E : ℕ → Type 0 = λ n. Extends (take n b.pool) c.pool in
    record {
      base = k.base ∙ h.base;
      kept = extends_on (take a.base a.pool) (take a.base b.pool) c.pool (cut_within a.base a.pool b.pool h.kept) (subst E h.base k.kept);
    }

-- the same of what is below the bases
pub bases_on : (old new : Met) → KeepsBase old new → Extends (take old.base old.pool) (take new.base new.pool)
bases_on old new h =
    let E : ℕ → Type 0 = λ n. Extends (take old.base old.pool) (take n new.pool) in
    subst E (sym h.base) (cut_within old.base old.pool new.pool h.kept)

-- ---- a pair at hand

pub record IsAtHand (system : System) (pool : List Tree) (peaks : List PlacedPeak) (k : ℕ) (pair : PeakPair) : Type 0 where
  pub peak : PlacedPeak
  pub there : slice_get peaks k ≡ Some peak
  pub left : StandsFor pool pair.left peak.left
  pub right : StandsFor pool pair.right peak.right
  pub left_over : IsIdOver system.arities pool pair.left
  pub right_over : IsIdOver system.arities pool pair.right

pub at_hand : (system : System) → IsSystem system → (first pool : List Tree) (pairs : List PeakPair) (peaks : List PlacedPeak) (k : ℕ) (pair : PeakPair) → ListsPeaks system.rules (Ok peaks)
    → ArePairs first pairs peaks → Extends first pool → slice_get pairs k ≡ Some pair → IsAtHand system pool peaks k pair
at_hand system valid first pool pairs peaks k pair listed are more at =
    let (p, there, is) = peak_of_pair are k pair at in
    let good = peaks_good system valid peaks listed p (in_of_get peaks k p there) in
    let left : StandsFor pool pair.left p.left = more.kept pair.left p.left is.0 in
    let right : StandsFor pool pair.right p.right = more.kept pair.right p.right is.1 in
    record {
      peak = p;
      there = there;
      left = left;
      right = right;
      left_over = id_over system.arities pool pair.left p.left left good.left_over;
      right_over = id_over system.arities pool pair.right p.right right good.right_over;
    }

pub keeps_then : {A E : Type 0} (a b c : Met) (answer : Result A E) → KeepsBase a b → OnOk answer (Extends b.pool c.pool) → OnOk answer (c.base ≡ b.base) → OnOk answer (KeepsBase a c)
keeps_then a b c (Ok x) h more base = keeps_on a b c h (base_kept b c base more)
keeps_then a b c (Err e) h more base = tt

-- what holds of the pair at hand holds of the two results of its peak
pub of_hand : (system : System) (pool : List Tree) (peaks : List PlacedPeak) (k : ℕ) (pair : PeakPair) (h : IsAtHand system pool peaks k pair) (P : RewriteRule → Type 0)
    → P (pair_of (tree_at pool pair.left) (tree_at pool pair.right)) → P (sides h.peak)
of_hand system pool peaks k pair h P p =
    let A : Tree → Type 0 = λ s. P (pair_of s (tree_at pool pair.right)) in
    let B : Tree → Type 0 = λ t. P (pair_of h.peak.left t) in
    subst B (stands_at pool pair.right h.peak.right h.right) (subst A (stands_at pool pair.left h.peak.left h.left) p)

pub has_if_some : (o : Option PeakTable) (rules others : List RewriteRule) (pool next : List Tree) → others ≡ rules → next ≡ pool → IfSome o (HasPeaks others pool) → IfSome o (HasPeaks rules next)
has_if_some o rules others pool next e f h = subst (λ rs. IfSome o (HasPeaks rs next)) e (subst (λ ts. IfSome o (HasPeaks others ts)) (sym f) h)
