use Rattle.std.proofs.Common.{◌≡◌, ◌≤◌, ◌<◌, ℕ, List, All, length, map, ◌++◌, ap, sym, subst, ◌∙◌, arith}
use Rattle.trs_defs.specs.System.{RewriteRule}
use Rattle.pair_theory.specs.DependencyPair.{DependencyPair, dependency_pairs}
use Rattle.pair_theory.specs.ReductionPair.{marked_rule}
use Rattle.order_search.specs.dp_core.Numbered.{ArePairsOf, AreItemsOf}
use Rattle.order_search.specs.dp_core.Symbols.{symbols_of_rules, symbols_below_roots}
use Rattle.order_search.specs.dp_core.PlacedPairs.{placed_pairs}
use Rattle.order_search.proofs.dp_core.AllNumbers.{few_pairs}
use Rattle.usable_rules.specs.AreUsable.{AreUsableRules}
use Rattle.usable_rules.proofs.Chosen.{usable_within}
use Rattle.order_search.specs.OrderRow.{AreSymbols}
use Rattle.order_search.specs.Distinct.{AreDistinct}
use Rattle.order_search.proofs.OfProblem.{small_roots, all_markable}
use Rattle.poly_find.proofs.OfUsable.{distinct, all_low, few_symbols, few_falling, found_for}
use Rattle.poly_find.proofs.usable_finding.find_usable_in.Goals as goal

pub choose_rules-requires : goal.choose_rules-requires
choose_rules-requires g c =
    let system = c.args.trs.now in
    let valid = c.rules-rules.ensures.valid in
    let few = c.rules-rules.ensures.limits.symbols in
    let good = c.dependency_pairs_suffice.ensures.pairs system valid in
    let taken = c.in_ok-taken.taken.items in
    let are : ArePairsOf (dependency_pairs system.rules) c.args.problem.now taken = subst (λ l. ArePairsOf l c.args.problem.now taken) (c.sides.ensures ∙ c.requires.pairs) c.in_ok-taken.ensures in
    let numbers = c.in_ok-numbers.numbers.items in
    let are_usable : AreUsableRules system.rules taken numbers =
    c.in_ok-numbers.ensures.usable taken (subst (λ l. ArePairsOf l c.args.problem.now taken) c.sides.ensures c.in_ok-taken.ensures) in
    subst (λ (l : List RewriteRule). All (λ k. k < length l) c.deref.result.now) (sym c.rules-rules.ensures.rules)
    (subst (λ (l : List ℕ). All (λ k. k < length system.rules) l) (sym c.deref.ensures.value) (usable_within system.rules taken numbers are_usable))

pub symbols_with_sides-requires : goal.symbols_with_sides-requires
symbols_with_sides-requires g c =
    let system = c.args.trs.now in
    let valid = c.rules-rules.ensures.valid in
    let few = c.rules-rules.ensures.limits.symbols in
    let good = c.dependency_pairs_suffice.ensures.pairs system valid in
    let taken = c.in_ok-taken.taken.items in
    small_roots system valid few good c.args.problem.now c.sides.result.now taken (c.sides.ensures ∙ c.requires.pairs) c.in_ok-taken.ensures c.deref-3.result.now c.deref-3.ensures.value

pub marked_rules-requires : goal.marked_rules-requires
marked_rules-requires g c =
    let system = c.args.trs.now in
    let valid = c.rules-rules.ensures.valid in
    let few = c.rules-rules.ensures.limits.symbols in
    let good = c.dependency_pairs_suffice.ensures.pairs system valid in
    let taken = c.in_ok-taken.taken.items in
    all_markable system valid few good c.args.problem.now c.sides.result.now taken (c.sides.ensures ∙ c.requires.pairs) c.in_ok-taken.ensures c.deref-4.result.now c.deref-4.ensures.value

pub search_linear-requires-clause-distinct : goal.search_linear-requires-clause-distinct
search_linear-requires-clause-distinct g c =
    let system = c.args.trs.now in
    let valid = c.rules-rules.ensures.valid in
    let few = c.rules-rules.ensures.limits.symbols in
    let good = c.dependency_pairs_suffice.ensures.pairs system valid in
    let taken = c.in_ok-taken.taken.items in
    let are : ArePairsOf (dependency_pairs system.rules) c.args.problem.now taken = subst (λ l. ArePairsOf l c.args.problem.now taken) (c.sides.ensures ∙ c.requires.pairs) c.in_ok-taken.ensures in
    let numbers = c.in_ok-numbers.numbers.items in
    let are_usable : AreUsableRules system.rules taken numbers =
    c.in_ok-numbers.ensures.usable taken (subst (λ l. ArePairsOf l c.args.problem.now taken) c.sides.ensures c.in_ok-taken.ensures) in
    let usable = c.in_ok-usable.usable.items in
    let chosen : AreItemsOf system.rules numbers usable =
    subst (λ l. AreItemsOf l numbers usable) c.rules-rules.ensures.rules (subst (λ l. AreItemsOf c.rules-rules.result.now l usable) c.deref.ensures.value c.in_ok-usable.ensures) in
    let symbols = c.in_ok-symbols.symbols.items in
    let syms : AreSymbols (symbols_of_rules usable ++ symbols_below_roots taken) taken symbols =
    subst (λ rs. AreSymbols (symbols_of_rules rs ++ symbols_below_roots taken) taken symbols) c.deref-2.ensures.value
    (subst (λ ps. AreSymbols (symbols_of_rules c.deref-2.result.now ++ symbols_below_roots ps) ps symbols) c.deref-3.ensures.value c.in_ok-symbols.ensures) in
    subst AreDistinct (sym c.deref-7.ensures.value) (distinct system valid few good c.args.problem.now taken are numbers usable are_usable chosen symbols syms)

pub search_linear-requires-clause-small_symbols : goal.search_linear-requires-clause-small_symbols
search_linear-requires-clause-small_symbols g c =
    let system = c.args.trs.now in
    let valid = c.rules-rules.ensures.valid in
    let few = c.rules-rules.ensures.limits.symbols in
    let good = c.dependency_pairs_suffice.ensures.pairs system valid in
    let taken = c.in_ok-taken.taken.items in
    let are : ArePairsOf (dependency_pairs system.rules) c.args.problem.now taken = subst (λ l. ArePairsOf l c.args.problem.now taken) (c.sides.ensures ∙ c.requires.pairs) c.in_ok-taken.ensures in
    let numbers = c.in_ok-numbers.numbers.items in
    let are_usable : AreUsableRules system.rules taken numbers =
    c.in_ok-numbers.ensures.usable taken (subst (λ l. ArePairsOf l c.args.problem.now taken) c.sides.ensures c.in_ok-taken.ensures) in
    let usable = c.in_ok-usable.usable.items in
    let chosen : AreItemsOf system.rules numbers usable =
    subst (λ l. AreItemsOf l numbers usable) c.rules-rules.ensures.rules (subst (λ l. AreItemsOf c.rules-rules.result.now l usable) c.deref.ensures.value c.in_ok-usable.ensures) in
    let symbols = c.in_ok-symbols.symbols.items in
    let syms : AreSymbols (symbols_of_rules usable ++ symbols_below_roots taken) taken symbols =
    subst (λ rs. AreSymbols (symbols_of_rules rs ++ symbols_below_roots taken) taken symbols) c.deref-2.ensures.value
    (subst (λ ps. AreSymbols (symbols_of_rules c.deref-2.result.now ++ symbols_below_roots ps) ps symbols) c.deref-3.ensures.value c.in_ok-symbols.ensures) in
    subst (λ (l : List ℕ). All (λ f. f < 8192) l) (sym c.deref-7.ensures.value) (all_low system valid few good c.args.problem.now taken are numbers usable are_usable chosen symbols syms)

pub search_linear-requires-clause-few_symbols : goal.search_linear-requires-clause-few_symbols
search_linear-requires-clause-few_symbols g c =
    let system = c.args.trs.now in
    let valid = c.rules-rules.ensures.valid in
    let few = c.rules-rules.ensures.limits.symbols in
    let good = c.dependency_pairs_suffice.ensures.pairs system valid in
    let taken = c.in_ok-taken.taken.items in
    let are : ArePairsOf (dependency_pairs system.rules) c.args.problem.now taken = subst (λ l. ArePairsOf l c.args.problem.now taken) (c.sides.ensures ∙ c.requires.pairs) c.in_ok-taken.ensures in
    let numbers = c.in_ok-numbers.numbers.items in
    let are_usable : AreUsableRules system.rules taken numbers =
    c.in_ok-numbers.ensures.usable taken (subst (λ l. ArePairsOf l c.args.problem.now taken) c.sides.ensures c.in_ok-taken.ensures) in
    let usable = c.in_ok-usable.usable.items in
    let chosen : AreItemsOf system.rules numbers usable =
    subst (λ l. AreItemsOf l numbers usable) c.rules-rules.ensures.rules (subst (λ l. AreItemsOf c.rules-rules.result.now l usable) c.deref.ensures.value c.in_ok-usable.ensures) in
    let symbols = c.in_ok-symbols.symbols.items in
    let syms : AreSymbols (symbols_of_rules usable ++ symbols_below_roots taken) taken symbols =
    subst (λ rs. AreSymbols (symbols_of_rules rs ++ symbols_below_roots taken) taken symbols) c.deref-2.ensures.value
    (subst (λ ps. AreSymbols (symbols_of_rules c.deref-2.result.now ++ symbols_below_roots ps) ps symbols) c.deref-3.ensures.value c.in_ok-symbols.ensures) in
    subst (λ (l : List ℕ). length l ≤ 8192) (sym c.deref-7.ensures.value) (few_symbols system valid few good c.args.problem.now taken are numbers usable are_usable chosen symbols syms)

pub search_linear-requires-clause-few_falling : goal.search_linear-requires-clause-few_falling
search_linear-requires-clause-few_falling g c =
    let system = c.args.trs.now in
    let valid = c.rules-rules.ensures.valid in
    let few = c.rules-rules.ensures.limits.symbols in
    let good = c.dependency_pairs_suffice.ensures.pairs system valid in
    let taken = c.in_ok-taken.taken.items in
    let are : ArePairsOf (dependency_pairs system.rules) c.args.problem.now taken = subst (λ l. ArePairsOf l c.args.problem.now taken) (c.sides.ensures ∙ c.requires.pairs) c.in_ok-taken.ensures in
    let numbers = c.in_ok-numbers.numbers.items in
    let are_usable : AreUsableRules system.rules taken numbers =
    c.in_ok-numbers.ensures.usable taken (subst (λ l. ArePairsOf l c.args.problem.now taken) c.sides.ensures c.in_ok-taken.ensures) in
    let usable = c.in_ok-usable.usable.items in
    let chosen : AreItemsOf system.rules numbers usable =
    subst (λ l. AreItemsOf l numbers usable) c.rules-rules.ensures.rules (subst (λ l. AreItemsOf c.rules-rules.result.now l usable) c.deref.ensures.value c.in_ok-usable.ensures) in
    let symbols = c.in_ok-symbols.symbols.items in
    let syms : AreSymbols (symbols_of_rules usable ++ symbols_below_roots taken) taken symbols =
    subst (λ rs. AreSymbols (symbols_of_rules rs ++ symbols_below_roots taken) taken symbols) c.deref-2.ensures.value
    (subst (λ ps. AreSymbols (symbols_of_rules c.deref-2.result.now ++ symbols_below_roots ps) ps symbols) c.deref-3.ensures.value c.in_ok-symbols.ensures) in
    let marked : c.deref-9.result.now ≡ map marked_rule taken =
    c.deref-9.ensures.value ∙ (c.in_ok-lent_pairs.ensures ∙ (c.deref-6.ensures.value ∙ (c.in_ok-marked.ensures ∙ ap (λ (l : List DependencyPair). map marked_rule l) c.deref-4.ensures.value))) in
    let count : length (placed_pairs system.rules) ≡ length (dependency_pairs system.rules) = c.placed_pairs_are_the_pairs.ensures.all system valid in
    let placed = few_pairs system.rules in
    let nodes = c.rules-rules.ensures.limits.nodes in
    let all : length (dependency_pairs system.rules) ≤ 65536 = omega (arith, count, placed, nodes) in
    let within = subst (λ (l : List DependencyPair). All (λ n. n < length l) c.args.problem.now) c.requires.pairs c.requires.numbers in
    let h = few_falling system valid few good c.args.problem.now taken are numbers usable are_usable chosen symbols syms c.rules-rules.ensures.limits.rules all c.requires.ascending within in
    let a : length c.deref-8.result.now ≡ length usable = ap length (c.deref-8.ensures.value ∙ (c.in_ok-lent_rules.ensures ∙ c.deref-5.ensures.value)) in
    let b : length c.deref-9.result.now ≡ length (map marked_rule taken) = ap length marked in
    omega (arith, h, a, b)

pub returns-clause-answer : goal.returns-clause-answer
returns-clause-answer g c =
    let system = c.args.trs.now in
    let valid = c.rules-rules.ensures.valid in
    let few = c.rules-rules.ensures.limits.symbols in
    let good = c.dependency_pairs_suffice.ensures.pairs system valid in
    let taken = c.in_ok-taken.taken.items in
    let are : ArePairsOf (dependency_pairs system.rules) c.args.problem.now taken = subst (λ l. ArePairsOf l c.args.problem.now taken) (c.sides.ensures ∙ c.requires.pairs) c.in_ok-taken.ensures in
    let numbers = c.in_ok-numbers.numbers.items in
    let are_usable : AreUsableRules system.rules taken numbers =
    c.in_ok-numbers.ensures.usable taken (subst (λ l. ArePairsOf l c.args.problem.now taken) c.sides.ensures c.in_ok-taken.ensures) in
    let usable = c.in_ok-usable.usable.items in
    let chosen : AreItemsOf system.rules numbers usable =
    subst (λ l. AreItemsOf l numbers usable) c.rules-rules.ensures.rules (subst (λ l. AreItemsOf c.rules-rules.result.now l usable) c.deref.ensures.value c.in_ok-usable.ensures) in
    let symbols = c.in_ok-symbols.symbols.items in
    let syms : AreSymbols (symbols_of_rules usable ++ symbols_below_roots taken) taken symbols =
    subst (λ rs. AreSymbols (symbols_of_rules rs ++ symbols_below_roots taken) taken symbols) c.deref-2.ensures.value
    (subst (λ ps. AreSymbols (symbols_of_rules c.deref-2.result.now ++ symbols_below_roots ps) ps symbols) c.deref-3.ensures.value c.in_ok-symbols.ensures) in
    let marked : c.deref-9.result.now ≡ map marked_rule taken =
    c.deref-9.ensures.value ∙ (c.in_ok-lent_pairs.ensures ∙ (c.deref-6.ensures.value ∙ (c.in_ok-marked.ensures ∙ ap (λ (l : List DependencyPair). map marked_rule l) c.deref-4.ensures.value))) in
    found_for system valid few good c.args.problem.now taken are numbers usable are_usable chosen symbols syms c.args.budget _ c.arities-arities.result.now c.deref-7.result.now c.deref-8.result.now c.deref-9.result.now c.search_linear.result
    c.arities-arities.ensures c.deref-7.ensures.value (c.deref-8.ensures.value ∙ (c.in_ok-lent_rules.ensures ∙ c.deref-5.ensures.value)) marked c.search_linear.ensures.answer
