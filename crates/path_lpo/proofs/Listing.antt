-- Kept arguments, listed from the last one on.
use Rattle.std.proofs.Common.{◌≡◌, ℕ, ◌-◌, ◌+◌, ◌<◌, List, length, drop, Some, None, slice_get, get_or, refl, ap, sym, ◌∙◌}
use Rattle.std.proofs.Math.Seq.{drop-length}
use Rattle.trs_defs.specs.Tree.{Tree, Trees, nil, cons, trees}
use Rattle.order_theory.specs.ArgumentFilter.{ArgumentFilter, select, filtered, filtered_all}
use Rattle.path_lpo.proofs.Keeping.{passed, reached}

module _ (filter : ℕ → ArgumentFilter) (places : List ℕ) (ts : List Tree) where
  -- the kept arguments from a place on, filtered
  abbrev pub listed_from : ℕ → Trees
  listed_from k = filtered_all filter (select (drop k places) (trees ts))

  pub none_listed : listed_from (length places) ≡ nil
  none_listed = ap (λ ps. filtered_all filter (select ps (trees ts))) (drop-length places)

  module _ (k m place : ℕ) (h : k < length places) (next : k + 1 ≡ m) (read : place ≡ get_or places k 0) where
    pub same_listed : slice_get ts (place - 1) ≡ None → listed_from k ≡ listed_from m
    same_listed none =
        ap (filtered_all filter) (sym (passed places ts k h (select (drop k places) (trees ts)) (ap (λ p. slice_get ts (p - 1)) (sym read) ∙ none) refl)) ∙ ap listed_from next

    pub one_listed : (t : Tree) → slice_get ts (place - 1) ≡ Some t → listed_from k ≡ cons (filtered filter t) (listed_from m)
    one_listed t there =
        ap (filtered_all filter) (reached places ts k h (select (drop k places) (trees ts)) t (ap (λ p. slice_get ts (p - 1)) (sym read) ∙ there) refl)
        ∙ ap (λ n. cons (filtered filter t) (listed_from n)) next
