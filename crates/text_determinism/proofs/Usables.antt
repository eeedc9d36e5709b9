-- The interpretation that the strategy usable finds is one, and at most one of its answers is true.
use Rattle.std.specs.Prelude.{◌≡◌, ℕ, List, ◌++◌, map, Result, Ok}
use Rattle.std.proofs.Common.{ap, ap₂, ◌∙◌, subst}
use Rattle.trs_defs.specs.System.{RewriteRule, System}
use Rattle.pair_theory.specs.DependencyPair.{DependencyPair, dependency_pairs}
use Rattle.rewrite_core.specs.declared.checks.refusals.StepRefused.{StepRefused}
use Rattle.sampling.specs.dp_core.Numbered.{AreItemsOf}
use Rattle.sampling.specs.dp_core.Symbols.{symbols_of_rules, symbols_below_roots}
use Rattle.conclusion.specs.report_text.strategies.usable_rules.AreUsable.{AreUsableRules}
use Rattle.conclusion.specs.report_text.strategies.usable_rules.UsableConditions.{usable_taken}
use Rattle.conclusion.proofs.tree_definitions.strategies.usable_rules.Chosen.{takes_usable_once}
use Rattle.assign_search.specs.Puzzle.{Puzzle}
use Rattle.conclusion.specs.report_text.strategies.order_search.Slots.{table_of, puzzle_of}
use Rattle.conclusion.specs.report_text.strategies.order_search.Outcome.{IsNotThere, IsSpent}
use Rattle.conclusion.specs.report_text.strategies.order_search.OrderRow.{AreSymbols}
use Rattle.conclusion.specs.report_text.strategies.poly_find.PolyRow.{poly_entry}
use Rattle.conclusion.specs.report_text.strategies.poly_find.UsableRow.{AreOfUsable, usable_search, FindsUsable, FailsUsable}
use Rattle.text_determinism.specs.LoopLaws.{Exclude}
use Rattle.text_determinism.proofs.Items.{items_once}
use Rattle.text_determinism.proofs.Orders.{symbols_once}
use Rattle.text_determinism.proofs.Searches.{Found, Failed, found_once, answers_exclude, exclude_by}

-- the pairs of a problem, its usable rules, and the symbols that need values
pub record Usable : Type 0 where
  pub pairs : List DependencyPair
  pub rules : List RewriteRule
  pub symbols : List ℕ

abbrev usable_by : List DependencyPair → List RewriteRule → List ℕ → Usable
usable_by pairs rules symbols = record { pairs = pairs; rules = rules; symbols = symbols }

rules_once : (all : List RewriteRule) (pairs : List DependencyPair) (ns ms : List ℕ) (rules others : List RewriteRule)
    → AreUsableRules all pairs ns → AreItemsOf all ns rules → AreUsableRules all pairs ms → AreItemsOf all ms others → rules ≡ others
rules_once all pairs ns ms rules others usable chosen also items =
    let same : ◌≡◌ {A = Result (List ℕ × List RewriteRule) StepRefused} (Ok (ns, rules)) (Ok (ms, others)) =
    (takes_usable_once all pairs).once (Ok (ns, rules)) (Ok (ms, others)) (usable_taken ns rules usable chosen) (usable_taken ms others also items) in
    let pair : ◌≡◌ {A = List ℕ × List RewriteRule} (ns, rules) (ms, others) = cc (same) in
    ap (λ (p : List ℕ × List RewriteRule). p.1) pair

module _ (system : System) (numbers : List ℕ) (budget : ℕ) where
  abbrev AreUsable : Usable → Type 0
  AreUsable p = AreOfUsable system numbers p.pairs p.rules p.symbols

  one_usable : (p q : Usable) → AreUsable p → AreUsable q → p ≡ q
  one_usable p q h k =
      let pairs : p.pairs ≡ q.pairs = items_once (dependency_pairs system.rules) numbers p.pairs q.pairs h.taken k.taken in
      let rules : p.rules ≡ q.rules =
      rules_once system.rules q.pairs h.rule_numbers k.rule_numbers p.rules q.rules
      (subst (λ (ps : List DependencyPair). AreUsableRules system.rules ps h.rule_numbers) pairs h.usable) h.chosen k.usable k.chosen in
      let by_rules : AreSymbols (symbols_of_rules q.rules ++ symbols_below_roots p.pairs) p.pairs p.symbols =
      subst (λ (rs : List RewriteRule). AreSymbols (symbols_of_rules rs ++ symbols_below_roots p.pairs) p.pairs p.symbols) rules h.are_symbols in
      let by_pairs : AreSymbols (symbols_of_rules q.rules ++ symbols_below_roots q.pairs) q.pairs p.symbols =
      subst (λ (ps : List DependencyPair). AreSymbols (symbols_of_rules q.rules ++ symbols_below_roots ps) ps p.symbols) pairs by_rules in
      let symbols : p.symbols ≡ q.symbols =
      symbols_once (symbols_of_rules q.rules ++ symbols_below_roots q.pairs) q.pairs p.symbols q.symbols by_pairs k.are_symbols in
      ap (λ (ps : List DependencyPair). usable_by ps p.rules p.symbols) pairs ∙ ap₂ (usable_by q.pairs) rules symbols

  abbrev usable_puzzle : Usable → Puzzle
  usable_puzzle p = puzzle_of (usable_search system p.pairs p.rules p.symbols)

  abbrev usable_value : Usable → List ℕ → List (ℕ × List ℕ)
  usable_value p values = map (poly_entry system.arities (table_of (usable_search system p.pairs p.rules p.symbols).slots values)) p.symbols

  usable_found : (a : List (ℕ × List ℕ)) → FindsUsable system numbers budget a → Found AreUsable one_usable usable_puzzle usable_value budget a
  usable_found a h = record {
    problem = usable_by h.pairs h.rules h.symbols;
    of_problem = h.of_problem;
    values = h.found.values;
    first = h.found.first;
    is = h.found.are;
  }

  usable_failed : (ends : Puzzle → Type 0) → FailsUsable system numbers ends → Failed AreUsable one_usable usable_puzzle usable_value budget ends
  usable_failed ends h = record { problem = usable_by h.pairs h.rules h.symbols; of_problem = h.of_problem; fails = h.fails }

  pub usable_once : (a b : List (ℕ × List ℕ)) → FindsUsable system numbers budget a → FindsUsable system numbers budget b → a ≡ b
  usable_once a b h k = found_once AreUsable one_usable usable_puzzle usable_value budget a b (usable_found a h) (usable_found b k)

  pub usable_exclude : (a : List (ℕ × List ℕ))
      → Exclude (FindsUsable system numbers budget a) (FailsUsable system numbers (IsNotThere budget)) (FailsUsable system numbers (IsSpent budget))
  usable_exclude a =
      exclude_by (usable_found a) (usable_failed (IsNotThere budget)) (usable_failed (IsSpent budget))
      (answers_exclude AreUsable one_usable usable_puzzle usable_value budget a)
