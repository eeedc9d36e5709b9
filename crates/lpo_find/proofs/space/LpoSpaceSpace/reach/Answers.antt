use Rattle.std.proofs.Common.{ℕ, List, ◌||◌, ap, sym, arith, ◌∙◌}
use Rattle.order_search.specs.Ends.{end_among}
use Rattle.order_search.specs.OrderSpace.{occurs_in, arity_with_mark}
use Rattle.order_search.proofs.LastPlaces.{twice_fits}
use Rattle.order_search.proofs.TwoParts.{many_slots}
use Rattle.lpo_find.proofs.LpoPuzzle.{reach_of_rule, reach_of_last}
use Rattle.lpo_find.proofs.space.LpoSpaceSpace.reach.Goals as goal

pub overflow_mul-result : goal.overflow_mul-result
overflow_mul-result c =
    let x = c.args.self.now in
    let rule = c.in-Some.rule.now in
    omega (arith, twice_fits (λ f. occurs_in f rule.left || occurs_in f rule.right) x.places.now x.symbols.now c.end_of_rule.result x.placed c.end_of_rule.ensures x.few_symbols)

pub returns-in-Some : goal.returns-in-Some
returns-in-Some c =
    let x = c.args.self.now in
    let rule = c.in-Some.rule.now in
    reach_of_rule (arity_with_mark x.arities.now) x.symbols.now x.rules.now x.pairs.now c.args.c c.end_of_rule.result rule (sym c.in-Some.ensures)
    (c.end_of_rule.ensures ∙ ap (λ (l : List ℕ). end_among (λ f. occurs_in f rule.left || occurs_in f rule.right) l) x.placed)

pub returns-in-None : goal.returns-in-None
returns-in-None c =
    let x = c.args.self.now in
    c.slots.ensures ∙ (many_slots x.symbols.now ∙ reach_of_last (arity_with_mark x.arities.now) x.symbols.now x.rules.now x.pairs.now c.args.c (sym c.in-None.ensures) c.requires)
