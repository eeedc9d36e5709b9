-- Kept arguments: the first, and filtered ones.
use Rattle.std.proofs.Common.{◌≡◌, ℕ, ◌-◌, ◌+◌, ◌<◌, ◌≤◌, zero, suc, List, [], ◌∷◌, length, drop, Some, None, slice_get, get_or, add-one, drop-cons, refl, ap, sym, ◌∙◌, arith}
use Rattle.trs_defs.specs.Tree.{Tree, Trees, nil, cons, trees}
use Rattle.trs_defs.specs.Size.{size_of, size_of_all}
use Rattle.pair_theory.specs.ItemOr.{item_or}
use Rattle.order_theory.specs.ArgumentFilter.{ArgumentFilter, keep_one, select, filtered, filtered_all}

-- an argument that is not there is skipped
pub skipped : (i : ℕ) (ts : List Tree) (rest : Trees) → slice_get ts i ≡ None → keep_one i (trees ts) rest ≡ rest
skipped i [] rest e = refl
skipped zero (t ∷ ts) rest e = absurd cc
skipped (suc i) (t ∷ ts) rest e = skipped i ts rest e

pub found : (i : ℕ) (ts : List Tree) (t : Tree) (rest : Trees) → slice_get ts i ≡ Some t → keep_one i (trees ts) rest ≡ cons t rest
found i [] t rest e = absurd cc
found zero (u ∷ ts) t rest e = let same : u ≡ t = cc in ap (λ z. cons z rest) same
found (suc i) (u ∷ ts) t rest e = found i ts t rest e

pub size_of_found : (i : ℕ) (ts : List Tree) (t : Tree) → slice_get ts i ≡ Some t → size_of t ≤ size_of_all (trees ts)
size_of_found i [] t e = absurd cc
size_of_found zero (u ∷ ts) t e = let same : u ≡ t = cc in omega (arith, ap size_of same)
size_of_found (suc i) (u ∷ ts) t e = omega (arith, size_of_found i ts t e)

module _ (filter : ℕ → ArgumentFilter) where
  keep_filtered : (i : ℕ) (ts rest : Trees) → keep_one i (filtered_all filter ts) (filtered_all filter rest) ≡ filtered_all filter (keep_one i ts rest)
  keep_filtered i nil rest = refl
  keep_filtered zero (cons t ts) rest = refl
  keep_filtered (suc i) (cons t ts) rest = keep_filtered i ts rest

  -- the kept arguments of the filtered ones are the kept ones, filtered
  pub select_filtered : (places : List ℕ) (ts : Trees) → select places (filtered_all filter ts) ≡ filtered_all filter (select places ts)
  select_filtered [] ts = refl
  select_filtered (place ∷ places) ts =
      ap (keep_one (place - 1) (filtered_all filter ts)) (select_filtered places ts) ∙ keep_filtered (place - 1) ts (select places ts)

  pub item_found : (i : ℕ) (ts : List Tree) (t d : Tree) → slice_get ts i ≡ Some t → item_or i (filtered_all filter (trees ts)) d ≡ filtered filter t
  item_found i [] t d e = absurd cc
  item_found zero (u ∷ ts) t d e = let same : u ≡ t = cc in ap (filtered filter) same
  item_found (suc i) (u ∷ ts) t d e = item_found i ts t d e

  pub item_missing : (i : ℕ) (ts : List Tree) (d : Tree) → slice_get ts i ≡ None → item_or i (filtered_all filter (trees ts)) d ≡ d
  item_missing i [] d e = refl
  item_missing zero (u ∷ ts) d e = absurd cc
  item_missing (suc i) (u ∷ ts) d e = item_missing i ts d e

module _ (places : List ℕ) (ts : List Tree) (k : ℕ) (h : k < length places) where
  -- a place that is not there is passed over
  pub passed : (kept : Trees) → slice_get ts (get_or places k 0 - 1) ≡ None → select (drop k places) (trees ts) ≡ kept
      → select (drop (k + 1) places) (trees ts) ≡ kept
  passed kept none left =
      sym (skipped (get_or places k 0 - 1) ts (select (drop (k + 1) places) (trees ts)) none) ∙ ap (λ ps. select ps (trees ts)) (sym opened) ∙ left
    where
      opened : drop k places ≡ get_or places k 0 ∷ drop (k + 1) places
      opened = rw (add-one, drop-cons places k 0) refl

  pub reached : (kept : Trees) (t : Tree) → slice_get ts (get_or places k 0 - 1) ≡ Some t → select (drop k places) (trees ts) ≡ kept
      → kept ≡ cons t (select (drop (k + 1) places) (trees ts))
  reached kept t there left =
      sym left ∙ ap (λ ps. select ps (trees ts)) opened ∙ found (get_or places k 0 - 1) ts t (select (drop (k + 1) places) (trees ts)) there
    where
      opened : drop k places ≡ get_or places k 0 ∷ drop (k + 1) places
      opened = rw (add-one, drop-cons places k 0) refl
