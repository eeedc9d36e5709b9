-- A term is taken apart at its root, as its filter says.
use Rattle.std.proofs.Common.{◌≡◌, ℕ, ◌-◌, ◌<◌, List, Some, None, slice_get, ap, sym, ◌∙◌, arith}
use Rattle.trs_defs.specs.Tree.{Tree, app, nil, trees}
use Rattle.trs_defs.specs.Size.{size_of}
use Rattle.order_theory.specs.ArgumentFilter.{ArgumentFilter, To, Keep, select, filtered, filtered_all, by_filter}
use Rattle.path_lpo.proofs.Keeping.{select_filtered, item_found, item_missing, size_of_found}

module _ (filter : ℕ → ArgumentFilter) (current whole : Tree) (f : ℕ) (ts : List Tree) (is : current ≡ app f (trees ts)) (same : filtered filter current ≡ filtered filter whole) where
  opened : by_filter f (filter f) (filtered_all filter (trees ts)) ≡ filtered filter whole
  opened = ap (filtered filter) (sym is) ∙ same

  pub whole_kept : (places given : List ℕ) (us : List Tree) → filter f ≡ Keep places → given ≡ places → us ≡ ts
      → app f (filtered_all filter (select given (trees us))) ≡ filtered filter whole
  whole_kept places given us keep same_places same_args =
      ap (λ ps. app f (filtered_all filter (select ps (trees us)))) same_places
      ∙ ap (λ vs. app f (filtered_all filter (select places (trees vs)))) same_args
      ∙ ap (app f) (sym (select_filtered filter places (trees ts)))
      ∙ ap (λ p. by_filter f p (filtered_all filter (trees ts))) (sym keep) ∙ opened

  pub whole_missing : (place : ℕ) → filter f ≡ To place → slice_get ts (place - 1) ≡ None → app f nil ≡ filtered filter whole
  whole_missing place go none =
      sym (item_missing filter (place - 1) ts (app f nil) none) ∙ ap (λ p. by_filter f p (filtered_all filter (trees ts))) (sym go) ∙ opened

  pub whole_there : (place : ℕ) (t : Tree) → filter f ≡ To place → slice_get ts (place - 1) ≡ Some t → filtered filter t ≡ filtered filter whole
  whole_there place t go there =
      sym (item_found filter (place - 1) ts t (app f nil) there) ∙ ap (λ p. by_filter f p (filtered_all filter (trees ts))) (sym go) ∙ opened

pub smaller : (current : Tree) (f : ℕ) (ts : List Tree) (i : ℕ) (t : Tree) → current ≡ app f (trees ts) → slice_get ts i ≡ Some t → size_of t < size_of current
smaller current f ts i t is there = omega (arith, ap size_of is, size_of_found i ts t there)
