use Rattle.std.proofs.Common.{◌≡◌, ◌≤◌, List, length, map, refl, ap, sym, subst, ◌∙◌, arith}
use Rattle.trs_defs.specs.System.{RewriteRule}
use Rattle.pair_theory.specs.DependencyPair.{DependencyPair, dependency_pairs}
use Rattle.pair_theory.specs.ReductionPair.{marked_rule}
use Rattle.dp_core.specs.PlacedPairs.{placed_pairs}
use Rattle.dp_core.specs.Symbols.{symbols_of_rules}
use Rattle.dp_core.proofs.AllNumbers.{few_pairs}
use Rattle.order_search.specs.OrderRow.{AreSymbols}
use Rattle.order_search.proofs.OfProblem.{small_roots, all_markable, is_order_problem, searchable}
use Rattle.order_search.proofs.problem.OrderProblem.of.Goals as goal

pub order_symbols-requires : goal.order_symbols-requires
order_symbols-requires c =
    small_roots c.args.trs.now c.rules-rules.ensures.valid c.rules-rules.ensures.limits.symbols (c.dependency_pairs_suffice.ensures.pairs c.args.trs.now c.rules-rules.ensures.valid)
    c.args.problem.now c.sides.result.now c.in_ok-taken.taken.items (c.sides.ensures ∙ c.requires.pairs) c.in_ok-taken.ensures
    c.deref.result.now c.deref.ensures.value

pub marked_rules-requires : goal.marked_rules-requires
marked_rules-requires c =
    all_markable c.args.trs.now c.rules-rules.ensures.valid c.rules-rules.ensures.limits.symbols (c.dependency_pairs_suffice.ensures.pairs c.args.trs.now c.rules-rules.ensures.valid)
    c.args.problem.now c.sides.result.now c.in_ok-taken.taken.items (c.sides.ensures ∙ c.requires.pairs) c.in_ok-taken.ensures
    c.deref-2.result.now c.deref-2.ensures.value

pub returns-clause-of_problem : goal.returns-clause-of_problem
returns-clause-of_problem c =
    is_order_problem c.args.trs.now c.rules-rules.ensures.valid c.rules-rules.ensures.limits.symbols (c.dependency_pairs_suffice.ensures.pairs c.args.trs.now c.rules-rules.ensures.valid)
    c.args.problem.now c.sides.result.now c.in_ok-taken.taken.items (c.sides.ensures ∙ c.requires.pairs) c.in_ok-taken.ensures
    c.deref.result.now c.deref.ensures.value c.in_ok-lend_rules.field-0.items (c.in_ok-lend_rules.ensures ∙ c.rules-rules.ensures.rules)
    c.in_ok-symbols.symbols.items c.in_ok-symbols.symbols.items refl
    (subst (λ (l : List RewriteRule). AreSymbols (symbols_of_rules l) c.deref.result.now c.in_ok-symbols.symbols.items) (sym c.in_ok-lend_rules.ensures) c.in_ok-symbols.ensures) c.in_ok-marked.marked.items c.in_ok-marked.marked.items refl
    (c.in_ok-marked.ensures ∙ ap (λ (l : List DependencyPair). map marked_rule l) (c.deref-2.ensures.value ∙ sym c.deref.ensures.value))
    c.arities-arities.result.now c.arities-arities.ensures

pub returns-clause-searchable : goal.returns-clause-searchable
returns-clause-searchable c =
    let count : length (placed_pairs c.args.trs.now.rules) ≡ length (dependency_pairs c.args.trs.now.rules) = c.placed_pairs_are_the_pairs.ensures.all c.args.trs.now c.rules-rules.ensures.valid in
    let placed = few_pairs c.args.trs.now.rules in
    let nodes = c.rules-rules.ensures.limits.nodes in
    let all : length (dependency_pairs c.args.trs.now.rules) ≤ 65536 = omega (arith, count, placed, nodes) in
    searchable c.args.trs.now c.rules-rules.ensures.valid c.rules-rules.ensures.limits.symbols (c.dependency_pairs_suffice.ensures.pairs c.args.trs.now c.rules-rules.ensures.valid)
    c.args.problem.now c.sides.result.now c.in_ok-taken.taken.items (c.sides.ensures ∙ c.requires.pairs) c.in_ok-taken.ensures
    c.deref.result.now c.deref.ensures.value c.in_ok-lend_rules.field-0.items (c.in_ok-lend_rules.ensures ∙ c.rules-rules.ensures.rules)
    c.in_ok-symbols.symbols.items c.in_ok-symbols.symbols.items refl
    (subst (λ (l : List RewriteRule). AreSymbols (symbols_of_rules l) c.deref.result.now c.in_ok-symbols.symbols.items) (sym c.in_ok-lend_rules.ensures) c.in_ok-symbols.ensures) c.in_ok-marked.marked.items c.in_ok-marked.marked.items refl
    (c.in_ok-marked.ensures ∙ ap (λ (l : List DependencyPair). map marked_rule l) (c.deref-2.ensures.value ∙ sym c.deref.ensures.value))
    c.rules-rules.ensures.limits.rules all c.requires.ascending c.requires.numbers
