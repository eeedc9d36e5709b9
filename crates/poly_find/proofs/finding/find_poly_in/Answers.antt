use Rattle.std.proofs.Common.{ℕ, List, ◌∙◌}
use Rattle.order_search.proofs.OfProblem.{searchable_as, found_of_problem}
use Rattle.poly_find.specs.PolyRow.{poly_search, poly_entry}
use Rattle.poly_find.proofs.finding.find_poly_in.Goals as goal

pub search_linear-requires-clause-distinct : goal.search_linear-requires-clause-distinct
search_linear-requires-clause-distinct g c =
    (searchable_as c.deref-2.result.now c.in_ok-over.over.symbols.items c.deref-3.result.now c.in_ok-over.over.rules.items c.deref-4.result.now c.in_ok-over.over.marked.items
    c.deref-2.ensures.value c.deref-3.ensures.value (c.deref-4.ensures.value ∙ (c.in_ok-marked.ensures ∙ c.deref.ensures.value)) c.in_ok-over.ensures.searchable).distinct

pub search_linear-requires-clause-small_symbols : goal.search_linear-requires-clause-small_symbols
search_linear-requires-clause-small_symbols g c =
    (searchable_as c.deref-2.result.now c.in_ok-over.over.symbols.items c.deref-3.result.now c.in_ok-over.over.rules.items c.deref-4.result.now c.in_ok-over.over.marked.items
    c.deref-2.ensures.value c.deref-3.ensures.value (c.deref-4.ensures.value ∙ (c.in_ok-marked.ensures ∙ c.deref.ensures.value)) c.in_ok-over.ensures.searchable).small_symbols

pub search_linear-requires-clause-few_symbols : goal.search_linear-requires-clause-few_symbols
search_linear-requires-clause-few_symbols g c =
    (searchable_as c.deref-2.result.now c.in_ok-over.over.symbols.items c.deref-3.result.now c.in_ok-over.over.rules.items c.deref-4.result.now c.in_ok-over.over.marked.items
    c.deref-2.ensures.value c.deref-3.ensures.value (c.deref-4.ensures.value ∙ (c.in_ok-marked.ensures ∙ c.deref.ensures.value)) c.in_ok-over.ensures.searchable).few_symbols

pub search_linear-requires-clause-few_falling : goal.search_linear-requires-clause-few_falling
search_linear-requires-clause-few_falling g c =
    (searchable_as c.deref-2.result.now c.in_ok-over.over.symbols.items c.deref-3.result.now c.in_ok-over.over.rules.items c.deref-4.result.now c.in_ok-over.over.marked.items
    c.deref-2.ensures.value c.deref-3.ensures.value (c.deref-4.ensures.value ∙ (c.in_ok-marked.ensures ∙ c.deref.ensures.value)) c.in_ok-over.ensures.searchable).few_falling

pub returns-clause-answer : goal.returns-clause-answer
returns-clause-answer g c =
    found_of_problem poly_search poly_entry (λ (order : List (ℕ × List ℕ)). order) c.args.budget _ c.args.trs.now c.args.problem.now c.in_ok-over.over.arities.now
    c.deref-2.result.now c.in_ok-over.over.symbols.items c.deref-3.result.now c.in_ok-over.over.rules.items c.deref-4.result.now c.in_ok-over.over.marked.items c.search_linear.result
    c.deref-2.ensures.value c.deref-3.ensures.value (c.deref-4.ensures.value ∙ (c.in_ok-marked.ensures ∙ c.deref.ensures.value)) c.in_ok-over.ensures.of_problem c.search_linear.ensures.answer
