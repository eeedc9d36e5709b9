-- What the entries that a table says tell of terms whose symbols have one.
use Rattle.std.specs.Prelude.{◌≡◌, ℕ, true, ◌||◌, List, [], ◌∷◌, map}
use Rattle.std.proofs.Common.{refl, ap, ap₂}
use Rattle.trs_defs.specs.Member.{in_first, in_rest}
use Rattle.trs_defs.specs.Variable.{is_listed}
use Rattle.trs_defs.specs.System.{RewriteRule}
use Rattle.kbo_order.specs.declared.entries.KboEntry.{KboEntry}
use Rattle.kbo_order.specs.Table.{symbol_of, weight_of, weight_in, rank_of, rank_in}
use Rattle.order_search.specs.Slots.{Table}
use Rattle.order_search.specs.OrderSpace.{occurs_in, AreCovered, some_falls}
use Rattle.order_search.proofs.SaidEntries.{entry_said}
use Rattle.kbo_find.specs.KnuthTest.{knuth_weak, knuth_strict}
use Rattle.kbo_find.specs.KboSpace.{weight_by, rank_by, kbo_weak, kbo_strict}
use Rattle.kbo_find.specs.KboRow.{entry_by}
use Rattle.kbo_find.specs.KboDepends.{weak_same, strict_same}

module _ (arity : ℕ → ℕ) (table : Table) (symbols : List ℕ) (entries : List KboEntry) (are : entries ≡ map (entry_by arity table) symbols) where
  module _ (r : RewriteRule) (covered : (f : ℕ) → occurs_in f r.left || occurs_in f r.right ≡ true → is_listed f symbols ≡ true) where
    same_parts : (f : ℕ) → occurs_in f r.left || occurs_in f r.right ≡ true → (weight_in entries f ≡ weight_by arity table f) × (rank_in entries f ≡ rank_by table f)
    same_parts f i =
        let said = entry_said symbol_of (entry_by arity table) (λ f. refl) symbols entries are f (covered f i) in
        (ap weight_of said, ap rank_of said)

    pub weak_by_entries : knuth_weak (weight_in entries) (rank_in entries) r.left r.right ≡ kbo_weak arity table r.left r.right
    weak_by_entries = weak_same (weight_in entries) (weight_by arity table) (rank_in entries) (rank_by table) r.left r.right same_parts

    pub strict_by_entries : knuth_strict (weight_in entries) (rank_in entries) r.left r.right ≡ kbo_strict arity table r.left r.right
    strict_by_entries = strict_same (weight_in entries) (weight_by arity table) (rank_in entries) (rank_by table) r.left r.right same_parts

  pub some_by_entries : (rules : List RewriteRule) → AreCovered symbols rules
      → some_falls (knuth_strict (weight_in entries) (rank_in entries)) rules ≡ some_falls (kbo_strict arity table) rules
  some_by_entries [] covered = refl
  some_by_entries (r ∷ rules) covered =
      ap₂ (λ a b. a || b) (strict_by_entries r (covered r in_first)) (some_by_entries rules (λ q i. covered q (in_rest i)))
