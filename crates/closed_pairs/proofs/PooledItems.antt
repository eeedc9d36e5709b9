-- Items that each say something of a peak of a pool.
use Rattle.std.specs.Prelude.{◌≡◌, ◌<◌, ◌≤◌, ℕ, ◌+◌, List, length, zip, slice_get, Some, Ok, Err}
use Rattle.std.proofs.Common.{sym, ◌∙◌, subst, arith}
use Rattle.trs_defs.specs.System.{RewriteRule}
use Rattle.trs_defs.proofs.ListItems.{item_there}
use Rattle.rewrite_core.specs.PlacedPeak.{PlacedPeak}
use Rattle.rewrite_core.specs.declared.checks.refusals.StepRefused.TheVariants.{Count}
use Rattle.rewrite_core.specs.declared.checks.refusals.CheckFault.{CheckFault}
use Rattle.rewrite_core.specs.Check.{Check, Refuses, stops, goes_on, holds, lacks, each, has_length, ◌>>=◌, ◌>>◌}
use Rattle.rewrite_core.proofs.Answering.{refused_later}
use Rattle.rewrite_core.proofs.Items.{Passed, one_more_passed, item_refused, all_passed, none_left, zipped}
use Rattle.crit_pairs.specs.PeaksCheck.{ListsCriticalPeaks}
use Rattle.crit_pairs.specs.PooledPeaks.{count_of, HoldsPeaks, ArePooled}
use Rattle.crit_pairs.specs.declared.pooled.PooledPeaks.{PooledPeaks}

-- item number k is as it must be of its peak
abbrev pub item_check : {Item : Type 0} → (ℕ → PlacedPeak → Item → Check (Unit {0})) → ℕ → PlacedPeak × Item → Check (Unit {0})
item_check check k item = check k item.0 item.1

-- there is an item for each critical peak, as it must be
abbrev pub item_conditions : {Item : Type 0} → (ℕ → PlacedPeak → Item → Check (Unit {0})) → List RewriteRule → List Item → Check (Unit {0})
item_conditions check rules items = do
  peaks ← ListsCriticalPeaks rules
  has_length (length peaks) items
  each (item_check check) 0 (zip peaks items)

-- there are as many peaks as items, and the items before number n are as they must be
pub record ArePassedBefore {Item : Type 0} (check : ℕ → PlacedPeak → Item → Check (Unit {0})) (rules : List RewriteRule) (items : List Item) (n : ℕ) (pooled : PooledPeaks) : Type 0 where
  pub peaks : List PlacedPeak
  pub lists : ListsCriticalPeaks rules (Ok peaks)
  pub count : length items ≡ length peaks
  pub held : HoldsPeaks peaks pooled
  pub passed : Passed (item_check check) (zip peaks items) n

module _ {Item : Type 0} (check : ℕ → PlacedPeak → Item → Check (Unit {0})) (rules : List RewriteRule) (items : List Item) where
  -- there is another number of items
  pub count_refused : (pooled : PooledPeaks) (count number : ℕ) → ArePooled rules pooled → count ≡ count_of pooled → length items ≡ number → (number ≡ count → ⊥)
      → item_conditions check rules items (Err (Count count number))
  count_refused pooled count number all is many other =
      let same : length all.peaks ≡ count = sym (is ∙ all.held.count) in
      let C : ℕ → Type 0 = λ k. item_conditions check rules items (Err (Count k number)) in
      subst C same (goes_on all.peaks _ all.lists
      (subst (λ m. (has_length (length all.peaks) items >> each (item_check check) 0 (zip all.peaks items)) (Err (Count (length all.peaks) m))) many
      (stops _ (lacks (λ e. other (sym many ∙ (e ∙ same)))))))

  pub none_passed : (pooled : PooledPeaks) (count : ℕ) → ArePooled rules pooled → count ≡ count_of pooled → length items ≡ count → ArePassedBefore check rules items 0 pooled
  none_passed pooled count all is same = record {
    peaks = all.peaks;
    lists = all.lists;
    count = same ∙ (is ∙ all.held.count);
    held = all.held;
    passed = λ answer h. h;
  }

  -- what an item asks of the peaks
  pub peaks_there : (n : ℕ) (old pooled : PooledPeaks) → ArePassedBefore check rules items n old → ((peaks : List PlacedPeak) → HoldsPeaks peaks old → HoldsPeaks peaks pooled) → ArePooled rules pooled
  peaks_there n old pooled h room = record { peaks = h.peaks; lists = h.lists; held = room h.peaks h.held }

  pub peak_there : (n : ℕ) (old pooled : PooledPeaks) → ArePassedBefore check rules items n old → ((peaks : List PlacedPeak) → HoldsPeaks peaks old → HoldsPeaks peaks pooled) → n < length items
      → n < count_of pooled
  peak_there n old pooled h room less = omega (arith, less, h.count, (room h.peaks h.held).count)

  module _ (n : ℕ) (old pooled : PooledPeaks) (h : ArePassedBefore check rules items n old) (room : (peaks : List PlacedPeak) → HoldsPeaks peaks old → HoldsPeaks peaks pooled) (item : Item)
      (less : n < length items) (at : slice_get items n ≡ Some item) where
    there : (p : PlacedPeak) × (slice_get h.peaks n ≡ Some p)
    there = item_there h.peaks n (omega (arith, less, h.count))

    both : slice_get (zip h.peaks items) n ≡ Some (there.0, item)
    both = zipped h.peaks items n there.0 item there.1 at

    pub refused_at : (fault : CheckFault) → ((all : List PlacedPeak) (p : PlacedPeak) → HoldsPeaks all pooled → slice_get all n ≡ Some p → Refuses (check n p item) fault)
        → Refuses (item_conditions check rules items) fault
    refused_at fault refused =
        refused_later _ _ fault h.peaks h.lists
        (refused_later _ _ fault tt (holds h.count)
        (item_refused (item_check check) (zip h.peaks items) n (there.0, item) fault both (refused h.peaks there.0 (room h.peaks h.held) there.1) h.passed))

    pub one_more : (next : PooledPeaks) → ((all : List PlacedPeak) → HoldsPeaks all pooled → HoldsPeaks all next)
        → ((all : List PlacedPeak) (p : PlacedPeak) → HoldsPeaks all pooled → slice_get all n ≡ Some p → check n p item (Ok tt)) → ArePassedBefore check rules items (n + 1) next
    one_more next more passed = record {
      peaks = h.peaks;
      lists = h.lists;
      count = h.count;
      held = more h.peaks (room h.peaks h.held);
      passed = one_more_passed (item_check check) (zip h.peaks items) n (there.0, item) both (passed h.peaks there.0 (room h.peaks h.held) there.1) h.passed;
    }

  pub all_hold : (n : ℕ) (pooled : PooledPeaks) → ArePassedBefore check rules items n pooled → length items ≤ n → item_conditions check rules items (Ok tt)
  all_hold n pooled h none =
      goes_on h.peaks _ h.lists
      (goes_on tt _ (holds h.count) (all_passed (item_check check) (zip h.peaks items) n (none_left h.peaks items n (omega (arith, none, h.count))) h.passed))
