-- The order that is found meets the conditions of a step by a path order.
use Rattle.std.specs.Prelude.{◌≡◌, ◌<◌, ℕ, ◌+◌, Bool, true, false, ◌||◌, List, [], ◌∷◌, ◌++◌, length, map, zip, Ok}
use Rattle.std.proofs.Common.{refl, sym, ap, subst, arith, ◌∙◌, inl, inr}
use Rattle.std.proofs.lemmas.List.{length-append}
use Rattle.std.proofs.lemmas.Option.{slice_get_within}
use Rattle.trs_defs.specs.Member.{In, in_first, in_rest}
use Rattle.trs_defs.proofs.Members.{in_left, in_right, in_map, get_of_in}
use Rattle.trs_defs.specs.System.{RewriteRule, System}
use Rattle.pair_theory.specs.Marked.{mark}
use Rattle.pair_theory.specs.DependencyPair.{DependencyPair, dependency_pairs}
use Rattle.pair_theory.specs.ReductionPair.{marked_rule}
use Rattle.order_theory.specs.ArgumentFilter.{PathWeak, PathStrict}
use Rattle.path_lpo.specs.pair_order.Entries.{has_entry}
use Rattle.path_lpo.specs.Table.{PathEntry, symbol_of, rank_in, filter_in}
use Rattle.rewrite_core.specs.Check.{Asks, returned, goes_on, holds, absent, never, each, collect, yes_it_does, no_it_does_not}
use Rattle.order_search.specs.dp_core.Numbered.{ArePairsOf, taken, numbers_from}
use Rattle.order_search.specs.dp_core.Symbols.{symbols_of_rules}
use Rattle.order_search.specs.dp_core.SubtermConditions.{roots_of, unflagged}
use Rattle.order_search.specs.dp_core.PairConditions.{Comparing, comparing_by, rule_is_weak, pair_is_weak, pair_conditions}
use Rattle.order_search.proofs.dp_core.NumberedPairs.{as_many}
use Rattle.order_search.proofs.dp_core.Conclusions.{each_in}
use Rattle.assign_search.proofs.Refuting.{true_or_false}
use Rattle.order_search.specs.Slots.{Table, table_of, puzzle_of}
use Rattle.order_search.proofs.Solutions.{solved}
use Rattle.order_search.specs.OrderSpace.{arity_with_mark, slots_of, some_falls}
use Rattle.order_search.proofs.Constraints.{many_constraints}
use Rattle.order_search.proofs.Covered.{all_covered, plain_symbol, root_symbol, listed_of}
use Rattle.order_search.proofs.SaidEntries.{entry_is_there}
use Rattle.lpo_find.specs.LpoSpace.{lpo_family, path_weak, path_strict}
use Rattle.lpo_find.specs.LpoRow.{lpo_search, lpo_entry}
use Rattle.lpo_find.specs.Laws.{FoundOrdersApply}
use Rattle.lpo_find.proofs.PathTests.{weak_is, strict_is, is_strict}
use Rattle.lpo_find.proofs.LpoPuzzle.{truth_of_rule, truth_of_last}

module _ (entries : List PathEntry) where
  abbrev comparing : Comparing
  comparing = comparing_by (has_entry symbol_of entries) (λ s t. ⊥) (PathWeak (rank_in entries) (filter_in entries)) (PathStrict (rank_in entries) (filter_in entries))

  -- whether the pair falls strictly
  abbrev falls_strictly : DependencyPair → Bool
  falls_strictly p = path_strict (rank_in entries) (filter_in entries) (mark p.from) (mark p.to)

  abbrev flags : List DependencyPair → List Bool
  flags ps = map falls_strictly ps

  asked : (p : DependencyPair) (b : Bool) → falls_strictly p ≡ b → Asks (PathStrict (rank_in entries) (filter_in entries) (mark p.from) (mark p.to)) (Ok b)
  asked p true e = yes_it_does (strict_is (rank_in entries) (filter_in entries) (mark p.from) (mark p.to) e)
  asked p false e = no_it_does_not (λ h. let set = is_strict (rank_in entries) (filter_in entries) (mark p.from) (mark p.to) h in absurd cc)

  module _ (weak : (r : RewriteRule) → path_weak (rank_in entries) (filter_in entries) r.left r.right ≡ true → PathWeak (rank_in entries) (filter_in entries) r.left r.right) where
    each_weak : (k n : ℕ) (rules : List RewriteRule) → ((r : RewriteRule) → In r rules → path_weak (rank_in entries) (filter_in entries) r.left r.right ≡ true)
        → each (λ _ item. rule_is_weak comparing item.0 item.1) k (zip (numbers_from n rules) rules) (Ok tt)
    each_weak k n [] tests = returned
    each_weak k n (r ∷ rules) tests =
        goes_on tt _ (goes_on tt _ (absent (λ h. h)) (holds (weak r (tests r in_first)))) (each_weak (k + 1) (n + 1) rules (λ q i. tests q (in_rest i)))

    all_pairs : (k rules : ℕ) (ns : List ℕ) (ps : List DependencyPair) → length ps ≡ length ns
        → ((p : DependencyPair) → In p ps → path_weak (rank_in entries) (filter_in entries) (mark p.from) (mark p.to) ≡ true)
        → collect (λ _ item. pair_is_weak comparing rules item.0 item.1) k (zip ns ps) (Ok (flags ps))
    all_pairs k rules [] [] e tests = returned
    all_pairs k rules [] (p ∷ ps) e tests = absurd (omega (arith, e))
    all_pairs k rules (n ∷ ns) [] e tests = absurd (omega (arith, e))
    all_pairs k rules (n ∷ ns) (p ∷ ps) e tests =
        goes_on _ _ (goes_on tt _ (goes_on tt _ (absent (λ h. h)) (holds (weak (marked_rule p) (tests p in_first)))) (asked p (falls_strictly p) refl))
        (goes_on (flags ps) _ (all_pairs (k + 1) rules ns ps (omega (arith, e)) (λ q i. tests q (in_rest i))) returned)

  some_flag : (ps : List DependencyPair) → some_falls (path_strict (rank_in entries) (filter_in entries)) (map marked_rule ps) ≡ true → In true (flags ps)
  some_flag [] e = absurd cc
  some_flag (p ∷ ps) e = elim (true_or_false (falls_strictly p)) [
    | inl set ↦ subst (λ b. In true (b ∷ flags ps)) (sym set) in_first
    | inr unset ↦ in_rest (some_flag ps (sym (ap (λ b. b || some_falls (path_strict (rank_in entries) (filter_in entries)) (map marked_rule ps)) unset) ∙ e))
  ]

  lacks_none : (f : ℕ) → has_entry symbol_of entries f ≡ true → has_entry symbol_of entries f ≡ false → ⊥
  lacks_none f there missing = absurd cc

  pub order_applies : (system : System) (numbers : List ℕ) (pairs : List DependencyPair) → ArePairsOf (dependency_pairs system.rules) numbers pairs
      → ((f : ℕ) → In f (symbols_of_rules system.rules) → has_entry symbol_of entries f ≡ true)
      → ((f : ℕ) → In f (roots_of pairs) → has_entry symbol_of entries (f + 4096) ≡ true)
      → ((r : RewriteRule) → In r (system.rules ++ map marked_rule pairs) → path_weak (rank_in entries) (filter_in entries) r.left r.right ≡ true)
      → some_falls (path_strict (rank_in entries) (filter_in entries)) (map marked_rule pairs) ≡ true
      → pair_conditions comparing system.rules (dependency_pairs system.rules) numbers (Ok (unflagged numbers (flags pairs)))
  order_applies system numbers pairs of plain roots tests some =
      let weak : (r : RewriteRule) → path_weak (rank_in entries) (filter_in entries) r.left r.right ≡ true → PathWeak (rank_in entries) (filter_in entries) r.left r.right =
      λ r e. weak_is (rank_in entries) (filter_in entries) r.left r.right e in
      goes_on pairs _ (taken pairs of)
      (goes_on tt _ (never (λ f (i, e). lacks_none f (plain f i) e))
      (goes_on tt _ (never (λ f (i, e). lacks_none (f + 4096) (roots f i) e))
      (goes_on tt _ (each_weak weak 0 0 system.rules (λ r i. tests r (in_left (map marked_rule pairs) i)))
      (goes_on (flags pairs) _ (all_pairs weak 0 (length system.rules) numbers pairs (as_many (dependency_pairs system.rules) numbers pairs of)
      (λ p i. tests (marked_rule p) (in_right system.rules (in_map marked_rule i))))
      (goes_on tt _ (holds (some_flag pairs some)) returned)))))

pub found_apply : FoundOrdersApply
found_apply system numbers budget entries valid h =
    let pairs = h.pairs in
    let symbols = h.symbols in
    let values = h.values in
    let marked = map marked_rule pairs in
    let arity = arity_with_mark system.arities in
    let s = solved (puzzle_of (lpo_search system pairs symbols)) values h.first.0 in
    let from_all : (p : DependencyPair) → In p pairs → In p (dependency_pairs system.rules) = λ p i. each_in (dependency_pairs system.rules) numbers pairs h.of_problem.taken p i in
    let syms = h.of_problem.are_symbols in
    let covered = all_covered system valid pairs from_all symbols syms in
    let many = many_constraints (lpo_family arity) symbols system.rules marked in
    let both = length-append system.rules marked in
    let table : Table = table_of (slots_of (λ _. 2) symbols) values in
    let tests : (r : RewriteRule) → In r (system.rules ++ marked) → path_weak (rank_in entries) (filter_in entries) r.left r.right ≡ true = λ r i.
    (let (c, at) = get_of_in i in
    let below : c < length (system.rules ++ marked) = slice_get_within (system.rules ++ marked) c r at in
    truth_of_rule arity symbols system.rules marked covered values entries h.are c r _ at refl ∙ s.meets c (omega (arith, below, both, many))) in
    let some : some_falls (path_strict (rank_in entries) (filter_in entries)) marked ≡ true =
    truth_of_last arity symbols system.rules marked covered values entries h.are (length system.rules + length marked) _ refl refl
    ∙ s.meets (length system.rules + length marked) (omega (arith, many)) in (
      _,
      order_applies entries system numbers pairs h.of_problem.taken
          (λ f i. entry_is_there symbol_of (lpo_entry arity table) (λ g. refl) symbols entries h.are f (listed_of f symbols (plain_symbol (symbols_of_rules system.rules) pairs symbols syms f i)))
          (λ f i. entry_is_there symbol_of (lpo_entry arity table) (λ g. refl) symbols entries h.are (f + 4096) (listed_of (f + 4096) symbols (root_symbol (symbols_of_rules system.rules) pairs symbols syms f i)))
          tests some,
    )
