-- The orders that the strategies poly, lpo and kbo find are one, and at most one of the answers of each is true.
use Rattle.std.specs.Prelude.{◌≡◌, ℕ, ◌+◌, List, ◌++◌, map}
use Rattle.std.proofs.Common.{ap₂, sym, ◌∙◌, subst}
use Rattle.trs_defs.specs.System.{System}
use Rattle.pair_theory.specs.DependencyPair.{DependencyPair, dependency_pairs}
use Rattle.sampling.specs.dp_core.SubtermConditions.{roots_of}
use Rattle.sampling.specs.dp_core.Symbols.{symbols_of_rules}
use Rattle.assign_search.specs.Puzzle.{Puzzle}
use Rattle.conclusion.specs.report_text.strategies.order_search.Slots.{Table, Search, table_of, puzzle_of}
use Rattle.conclusion.specs.report_text.strategies.order_search.Outcome.{IsNotThere, IsSpent}
use Rattle.conclusion.specs.report_text.strategies.order_search.OrderSpace.{OrderConstraint}
use Rattle.conclusion.specs.report_text.strategies.order_search.OrderRow.{AreSymbols, AreOfOrder, FindsOrder, FailsOrder}
use Rattle.text_determinism.specs.LoopLaws.{Exclude}
use Rattle.text_determinism.proofs.Items.{items_once, ascending_once}
use Rattle.text_determinism.proofs.Searches.{Found, Failed, found_once, answers_exclude, exclude_by}

pub symbols_once : (unmarked : List ℕ) (pairs : List DependencyPair) (a b : List ℕ) → AreSymbols unmarked pairs a
    → AreSymbols unmarked pairs b → a ≡ b
symbols_once unmarked pairs a b h k =
    let plain : h.plain ≡ k.plain = ascending_once unmarked h.plain k.plain h.are_plain k.are_plain in
    let roots : h.roots ≡ k.roots = ascending_once (roots_of pairs) h.roots k.roots h.are_roots k.are_roots in
    h.together ∙ (ap₂ (λ (fs gs : List ℕ). fs ++ map (λ f. f + 4096) gs) plain roots ∙ sym k.together)

module _ (system : System) (numbers : List ℕ) (budget : ℕ)
    {Entry : Type 0} (search : List DependencyPair → List ℕ → Search OrderConstraint) (entry : Table → ℕ → Entry) where
  abbrev Ordered : Type 0
  Ordered = List DependencyPair × List ℕ

  abbrev AreOrdered : Ordered → Type 0
  AreOrdered p = AreOfOrder system numbers p.0 p.1

  one_ordered : (p q : Ordered) → AreOrdered p → AreOrdered q → p ≡ q
  one_ordered (pairs, symbols) (others, more) h k =
      let same : pairs ≡ others = items_once (dependency_pairs system.rules) numbers pairs others h.taken k.taken in
      let also : symbols ≡ more = symbols_once (symbols_of_rules system.rules) others symbols more
      (subst (λ (ps : List DependencyPair). AreSymbols (symbols_of_rules system.rules) ps symbols) same h.are_symbols) k.are_symbols in
      ap₂ (λ (ps : List DependencyPair) (fs : List ℕ). (ps, fs)) same also

  abbrev order_puzzle : Ordered → Puzzle
  order_puzzle p = puzzle_of (search p.0 p.1)

  abbrev order_value : Ordered → List ℕ → List Entry
  order_value p values = map (entry (table_of (search p.0 p.1).slots values)) p.1

  order_found : (a : List Entry) → FindsOrder system numbers search entry budget a → Found AreOrdered one_ordered order_puzzle order_value budget a
  order_found a h = record { problem = (h.pairs, h.symbols); of_problem = h.of_problem; values = h.values; first = h.first; is = h.are }

  order_failed : (ends : Puzzle → Type 0) → FailsOrder system numbers search ends → Failed AreOrdered one_ordered order_puzzle order_value budget ends
  order_failed ends h = record { problem = (h.pairs, h.symbols); of_problem = h.of_problem; fails = h.fails }

  pub order_once : (a b : List Entry) → FindsOrder system numbers search entry budget a → FindsOrder system numbers search entry budget b → a ≡ b
  order_once a b h k = found_once AreOrdered one_ordered order_puzzle order_value budget a b (order_found a h) (order_found b k)

  pub order_exclude : (a : List Entry)
      → Exclude (FindsOrder system numbers search entry budget a) (FailsOrder system numbers search (IsNotThere budget))
      (FailsOrder system numbers search (IsSpent budget))
  order_exclude a =
      exclude_by (order_found a) (order_failed (IsNotThere budget)) (order_failed (IsSpent budget))
      (answers_exclude AreOrdered one_ordered order_puzzle order_value budget a)
