-- The entries that a table says for symbols.
use Rattle.std.specs.Prelude.{◌≡◌, ℕ, true, ◌||◌, List, [], ◌∷◌, map, Some}
use Rattle.std.proofs.Common.{refl, ap, ap₂}
use Rattle.trs_defs.specs.Member.{in_first, in_rest}
use Rattle.trs_defs.specs.Variable.{is_listed}
use Rattle.trs_defs.specs.System.{RewriteRule}
use Rattle.path_lpo.specs.pair_order.Entries.{entry_of}
use Rattle.path_lpo.specs.Table.{PathEntry, symbol_of, rank_of, rank_in, filter_of, filter_in}
use Rattle.order_search.specs.Slots.{Table}
use Rattle.order_search.specs.OrderSpace.{occurs_in, AreCovered, some_falls}
use Rattle.order_search.proofs.SaidEntries.{entry_said}
use Rattle.lpo_find.specs.LpoSpace.{rank_by, filter_by, path_weak, path_strict, lpo_weak, lpo_strict}
use Rattle.lpo_find.specs.LpoRow.{lpo_entry}
use Rattle.lpo_find.specs.LpoDepends.{weak_same, strict_same}

module _ (arity : ℕ → ℕ) (table : Table) where
  module _ (symbols : List ℕ) (entries : List PathEntry) (are : entries ≡ map (lpo_entry arity table) symbols) where
    found : (f : ℕ) → is_listed f symbols ≡ true → entry_of symbol_of entries f ≡ Some (lpo_entry arity table f)
    found f e = entry_said symbol_of (lpo_entry arity table) (λ g. refl) symbols entries are f e

    module _ (r : RewriteRule) (covered : (f : ℕ) → occurs_in f r.left || occurs_in f r.right ≡ true → is_listed f symbols ≡ true) where
      ranks : (f : ℕ) → occurs_in f r.left || occurs_in f r.right ≡ true → rank_in entries f ≡ rank_by table f
      ranks f i = ap rank_of (found f (covered f i))

      filters : (f : ℕ) → occurs_in f r.left || occurs_in f r.right ≡ true → filter_in entries f ≡ filter_by arity table f
      filters f i = ap filter_of (found f (covered f i))

      pub weak_by_entries : path_weak (rank_in entries) (filter_in entries) r.left r.right ≡ lpo_weak arity table r.left r.right
      weak_by_entries = weak_same r.left r.right (rank_in entries) (rank_by table) (filter_in entries) (filter_by arity table) ranks filters

      pub strict_by_entries : path_strict (rank_in entries) (filter_in entries) r.left r.right ≡ lpo_strict arity table r.left r.right
      strict_by_entries = strict_same r.left r.right (rank_in entries) (rank_by table) (filter_in entries) (filter_by arity table) ranks filters

    pub some_by_entries : (rules : List RewriteRule) → AreCovered symbols rules
        → some_falls (path_strict (rank_in entries) (filter_in entries)) rules ≡ some_falls (lpo_strict arity table) rules
    some_by_entries [] covered = refl
    some_by_entries (r ∷ rules) covered =
        ap₂ (λ a b. a || b) (strict_by_entries r (covered r in_first)) (some_by_entries rules (λ q i. covered q (in_rest i)))
