use Rattle.std.proofs.Common.{◌≡◌, ◌≤◌, length, sym, subst, ◌∙◌, arith}
use Rattle.pair_theory.specs.DependencyPair.{dependency_pairs}
use Rattle.order_search.specs.dp_core.PlacedPairs.{placed_pairs}
use Rattle.order_search.specs.dp_core.Numbered.{ArePairsOf}
use Rattle.order_search.proofs.dp_core.AllNumbers.{few_pairs}
use Rattle.order_search.specs.Distinct.{AreDistinct}
use Rattle.order_search.proofs.FewPairs.{few_taken, few_roots}
use Rattle.order_search.proofs.Repeats.{distinct_of, once_distinct}
use Rattle.order_find.proofs.Findings.{of_problem, found_of_problem}
use Rattle.order_find.proofs.subterm.find_subterm_in.Goals as goal

pub search_places-requires-clause-bytes : goal.search_places-requires-clause-bytes
search_places-requires-clause-bytes g c = rw c.arities-arities.ensures c.systems_are_valid.ensures.bytes

pub search_places-requires-clause-distinct : goal.search_places-requires-clause-distinct
search_places-requires-clause-distinct g c =
    subst AreDistinct (sym c.deref-2.ensures.value) (once_distinct c.in_ok-roots.roots.items (distinct_of c.in_ok-roots.roots.items c.in_ok-roots.ensures.increasing))

pub search_places-requires-clause-few_roots : goal.search_places-requires-clause-few_roots
search_places-requires-clause-few_roots g c =
    let few = few_roots c.args.trs.now.arities c.systems_are_valid.ensures.limits.symbols (dependency_pairs c.args.trs.now.rules) (c.dependency_pairs_suffice.ensures.pairs c.args.trs.now c.systems_are_valid.ensures.valid)
    c.args.problem.now c.in_ok-taken.taken.items (subst (λ l. ArePairsOf l c.args.problem.now c.in_ok-taken.taken.items) (c.sides.ensures ∙ c.requires.pairs) c.in_ok-taken.ensures)
    c.deref.result.now c.in_ok-roots.roots.items c.deref-2.result.now c.deref.ensures.value c.in_ok-roots.ensures c.deref-2.ensures.value in
    omega (arith, few)

pub search_places-requires-clause-few_pairs : goal.search_places-requires-clause-few_pairs
search_places-requires-clause-few_pairs g c =
    let count : length (placed_pairs c.args.trs.now.rules) ≡ length (dependency_pairs c.args.trs.now.rules) = c.placed_pairs_are_the_pairs.ensures.all c.args.trs.now c.systems_are_valid.ensures.valid in
    let placed = few_pairs c.args.trs.now.rules in
    let nodes = c.systems_are_valid.ensures.limits.nodes in
    let all : length (dependency_pairs c.args.trs.now.rules) ≤ 65536 = omega (arith, count, placed, nodes) in
    let few = few_taken (dependency_pairs c.args.trs.now.rules) c.args.problem.now c.in_ok-taken.taken.items c.deref-3.result.now 65536 c.requires.ascending c.requires.numbers
    (subst (λ l. ArePairsOf l c.args.problem.now c.in_ok-taken.taken.items) (c.sides.ensures ∙ c.requires.pairs) c.in_ok-taken.ensures) c.deref-3.ensures.value all in
    omega (arith, few)

pub returns-clause-answer : goal.returns-clause-answer
returns-clause-answer g c =
    found_of_problem c.args.trs.now c.args.problem.now c.deref-3.result.now c.deref-2.result.now c.args.budget _
    (of_problem c.args.trs.now c.args.problem.now c.sides.result.now c.in_ok-taken.taken.items c.deref-3.result.now c.deref.result.now c.in_ok-roots.roots.items c.deref-2.result.now
    (c.sides.ensures ∙ c.requires.pairs) c.in_ok-taken.ensures c.deref-3.ensures.value c.in_ok-roots.ensures c.deref.ensures.value c.deref-2.ensures.value)
    c.arities-arities.result.now c.search_places.result c.arities-arities.ensures c.search_places.ensures.answer
