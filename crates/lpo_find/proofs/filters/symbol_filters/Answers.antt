use Rattle.std.proofs.Common.{ap, ◌∙◌, map}
use Rattle.std.proofs.lemmas.List.{take_all}
use Rattle.order_search.specs.OrderSpace.{arity_with_mark}
use Rattle.lpo_find.specs.Filters.{filters_of}
use Rattle.lpo_find.proofs.FilterLists.{one_list_more}
use Rattle.lpo_find.proofs.filters.symbol_filters.Goals as goal

pub loop-f-preserved : goal.loop-f-preserved
loop-f-preserved c =
    one_list_more (arity_with_mark c.args.arities.now) c.args.symbols.now c.loop-f.f-index c.arity_of.result c.in_ok-arity_filters.field-0 c.loop-f.filters.items c.push.new.self.items
    c.loop-f-test.true c.in_ok-arity_filters.ensures c.arity_of.ensures.value c.in_ok-push.ensures.items c.loop-f.invariant

pub returns : goal.returns
returns c = c.loop-f.invariant ∙ ap (map (λ f. filters_of (arity_with_mark c.args.arities.now f))) (take_all c.loop-f.f-index c.args.symbols.now c.loop-f-test.false)
