use Rattle.std.proofs.Common.{List, ◌∙◌}
use Rattle.path_lpo.specs.Table.{PathEntry}
use Rattle.order_search.proofs.OfProblem.{searchable_as, found_of_problem}
use Rattle.lpo_find.specs.LpoRow.{path_entry, path_search}
use Rattle.lpo_find.proofs.finding.find_lpo_in.Goals as goal

pub search_orders-requires : goal.search_orders-requires
search_orders-requires g c =
    searchable_as c.deref-2.result.now c.in_ok-over.over.symbols.items c.deref-3.result.now c.in_ok-over.over.rules.items c.deref-4.result.now c.in_ok-over.over.marked.items
    c.deref-2.ensures.value c.deref-3.ensures.value (c.deref-4.ensures.value ∙ (c.in_ok-marked.ensures ∙ c.deref.ensures.value)) c.in_ok-over.ensures.searchable

pub returns-clause-answer : goal.returns-clause-answer
returns-clause-answer g c =
    found_of_problem path_search path_entry (λ (order : List PathEntry). order) c.args.budget _ c.args.trs.now c.args.problem.now c.in_ok-over.over.arities.now
    c.deref-2.result.now c.in_ok-over.over.symbols.items c.deref-3.result.now c.in_ok-over.over.rules.items c.deref-4.result.now c.in_ok-over.over.marked.items c.search_orders.result
    c.deref-2.ensures.value c.deref-3.ensures.value (c.deref-4.ensures.value ∙ (c.in_ok-marked.ensures ∙ c.deref.ensures.value)) c.in_ok-over.ensures.of_problem c.search_orders.ensures.answer
