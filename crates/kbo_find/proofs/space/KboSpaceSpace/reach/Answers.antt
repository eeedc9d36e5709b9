use Rattle.std.proofs.Common.{ℕ, List, ◌==◌, ◌||◌, ◌-◌, length, ap, sym, arith, ◌∙◌}
use Rattle.order_search.specs.Ends.{end_among}
use Rattle.order_search.specs.OrderSpace.{occurs_in}
use Rattle.order_search.proofs.Constraints.{past_end}
use Rattle.order_search.proofs.LastPlaces.{twice_fits}
use Rattle.order_search.proofs.TwoParts.{many_slots}
use Rattle.kbo_find.proofs.KboPuzzle.{number_behind, reach_top, reach_falling, reach_last}
use Rattle.kbo_find.proofs.space.KboSpaceSpace.reach.Goals as goal

pub overflow_mul-result : goal.overflow_mul-result
overflow_mul-result c =
    let x = c.args.self.now in
    let top = c.in-Some.top.now in
    omega (arith, twice_fits (λ f. top.unary == f || top.other == f) x.places.now x.symbols.now c.end_of_top.result x.placed c.end_of_top.ensures x.few_symbols)

pub overflow_sub-c : goal.overflow_sub-c
overflow_sub-c c = past_end c.args.self.now.tops.now c.args.c (sym c.in-None.ensures)

pub overflow_mul-result-in-Some-falling_at : goal.overflow_mul-result-in-Some-falling_at
overflow_mul-result-in-Some-falling_at c =
    let x = c.args.self.now in
    let rule = c.in-Some-falling_at.rule.now in
    omega (arith, twice_fits (λ f. occurs_in f rule.left || occurs_in f rule.right) x.places.now x.symbols.now c.end_of_rule.result x.placed c.end_of_rule.ensures x.few_symbols)

pub returns-in-Some : goal.returns-in-Some
returns-in-Some c =
    let x = c.args.self.now in
    let top = c.in-Some.top.now in
    reach_top x.arities.now x.symbols.now x.rules.now x.pairs.now x.tops.now x.tops_are c.args.c c.end_of_top.result top (sym c.in-Some.ensures)
    (c.end_of_top.ensures ∙ ap (λ (l : List ℕ). end_among (λ f. top.unary == f || top.other == f) l) x.placed)

pub returns-in-Some-falling_at : goal.returns-in-Some-falling_at
returns-in-Some-falling_at c =
    let x = c.args.self.now in
    let rule = c.in-Some-falling_at.rule.now in
    reach_falling x.arities.now x.symbols.now x.rules.now x.pairs.now c.args.c (c.args.c - length x.tops.now)
    (number_behind x.arities.now x.symbols.now x.rules.now x.pairs.now x.tops.now x.tops_are c.args.c (sym c.in-None.ensures)) rule c.end_of_rule.result (sym c.in-Some-falling_at.ensures)
    (c.end_of_rule.ensures ∙ ap (λ (l : List ℕ). end_among (λ f. occurs_in f rule.left || occurs_in f rule.right) l) x.placed)

pub returns-in-None-falling_at : goal.returns-in-None-falling_at
returns-in-None-falling_at c =
    let x = c.args.self.now in
    c.slots.ensures ∙ (many_slots x.symbols.now ∙ reach_last x.arities.now x.symbols.now x.rules.now x.pairs.now c.args.c (c.args.c - length x.tops.now)
    (number_behind x.arities.now x.symbols.now x.rules.now x.pairs.now x.tops.now x.tops_are c.args.c (sym c.in-None.ensures)) (sym c.in-None-falling_at.ensures) c.requires)
