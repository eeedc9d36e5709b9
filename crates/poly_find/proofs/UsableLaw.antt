-- The interpretation that is found meets the conditions of a step by a linear interpretation and usable rules.
use Rattle.std.specs.Prelude.{◌≡◌, ℕ, ◌+◌, true, List, [], ◌∷◌, ◌++◌, length, map}
use Rattle.std.proofs.Common.{inl, inr, subst, arith}
use Rattle.trs_defs.specs.Member.{In}
use Rattle.trs_defs.proofs.Members.{in_or, no_in, in_left, in_right}
use Rattle.pair_theory.specs.DependencyPair.{DependencyPair, dependency_pairs}
use Rattle.pair_theory.specs.ReductionPair.{marked_rule}
use Rattle.pair_theory.specs.PairProblem.{IsPair}
use Rattle.pair_theory.proofs.PairList.{listed_are_pairs}
use Rattle.poly_lin.specs.pair_order.Entries.{has_entry}
use Rattle.poly_lin.specs.Table.{symbol_of, coefficient_in}
use Rattle.rewrite_core.specs.Check.{goes_on}
use Rattle.order_search.specs.dp_core.Numbered.{taken}
use Rattle.order_search.specs.dp_core.Symbols.{symbols_of_all, symbols_of_rules, symbols_below_roots}
use Rattle.order_search.proofs.dp_core.NumberedPairs.{as_many}
use Rattle.order_search.proofs.dp_core.OrderConclusions.{rule_symbols}
use Rattle.order_search.proofs.dp_core.Conclusions.{each_in}
use Rattle.usable_rules.specs.UsableConditions.{usable_taken}
use Rattle.order_search.proofs.Covered.{plain_symbol, root_symbol, covers}
use Rattle.order_search.proofs.OrderLaw.{removal_applies}
use Rattle.poly_find.specs.LinearTest.{linear_weak, linear_strict}
use Rattle.poly_find.proofs.NoPairing.{no_pairing_by, roots_within}
use Rattle.poly_find.proofs.PolyLaw.{comparing, tests, all_fall, some_strict_pair, entry_there}
use Rattle.poly_find.specs.UsableLaws.{FoundOrdersApply}
use Rattle.poly_find.proofs.OfUsable.{plain_low}

pair_symbols : (pairs : List DependencyPair) (p : DependencyPair) → In p pairs → (f : ℕ) → In f (symbols_of_all p.from.args ++ symbols_of_all p.to.args) → In f (symbols_below_roots pairs)
pair_symbols [] p i f m = absurd (no_in i)
pair_symbols (q ∷ pairs) p i f m = elim (in_or i) [
  | inl same ↦ in_left (symbols_below_roots pairs) (subst (λ (z : DependencyPair). In f (symbols_of_all z.from.args ++ symbols_of_all z.to.args)) same m)
  | inr later ↦ in_right (symbols_of_all q.from.args ++ symbols_of_all q.to.args) (pair_symbols pairs p later f m)
]

pub found_apply : FoundOrdersApply
found_apply system numbers budget entries valid few h =
    let pairs = h.pairs in
    let rules = h.rules in
    let symbols = h.symbols in
    let marked = map marked_rule pairs in
    let o = h.of_problem in
    let good : (p : DependencyPair) → In p (dependency_pairs system.rules) → IsPair system.arities p = λ p i. listed_are_pairs system valid p i in
    let from = each_in (dependency_pairs system.rules) numbers pairs o.taken in
    let low = plain_low system valid few good numbers pairs o.taken o.rule_numbers rules o.usable o.chosen symbols o.are_symbols in
    let none = no_pairing_by (symbols_of_rules rules ++ symbols_below_roots pairs) pairs symbols low
    (λ f i. let small = roots_within system.arities pairs (λ p j. good p (from p j)) f i in omega (arith, few, small)) o.are_symbols in
    let all = covers (symbols_of_rules rules ++ symbols_below_roots pairs) pairs symbols o.are_symbols rules
    (λ r i f j. in_left (symbols_below_roots pairs) (rule_symbols rules r i f j)) (λ p i f j. in_right (symbols_of_rules rules) (pair_symbols pairs p i f j)) in
    let there : (f : ℕ) → In f symbols → has_entry symbol_of entries f ≡ true =
    entry_there system.arities symbols rules marked none all budget h.found.values entries h.found.first h.found.are in (
      _,
      goes_on pairs _ (taken pairs o.taken)
          (goes_on (o.rule_numbers, rules) _ (usable_taken o.rule_numbers rules o.usable o.chosen)
          (removal_applies (comparing entries) (linear_weak (coefficient_in entries)) (linear_strict (coefficient_in entries)) (tests entries)
          (symbols_of_rules rules ++ symbols_below_roots pairs) o.rule_numbers rules (length system.rules) numbers pairs
          (as_many (dependency_pairs system.rules) numbers pairs o.taken)
          (λ f i. there f (plain_symbol (symbols_of_rules rules ++ symbols_below_roots pairs) pairs symbols o.are_symbols f i))
          (λ f i. there (f + 4096) (root_symbol (symbols_of_rules rules ++ symbols_below_roots pairs) pairs symbols o.are_symbols f i))
          (all_fall system.arities symbols rules marked none all budget h.found.values entries h.found.first h.found.are)
          (some_strict_pair system.arities symbols rules marked none all budget h.found.values entries h.found.first h.found.are))),
    )
