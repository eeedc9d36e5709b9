use Rattle.std.proofs.Common.{ℕ, List, ◌||◌, ◌^◌, ap, sym, arith, ◌∙◌}
use Rattle.order_search.specs.Ends.{end_among}
use Rattle.order_search.specs.OrderSpace.{occurs_in}
use Rattle.order_search.proofs.LastPlaces.{end_within}
use Rattle.poly_find.specs.PolyPlaces.{parts_by, starts}
use Rattle.poly_find.proofs.PolyPuzzle.{reach_of_rule, reach_of_last, few_of_rule}
use Rattle.poly_find.proofs.space.PolySpaceSpace.reach.Goals as goal

pub slots_of_first-requires-clause-within : goal.slots_of_first-requires-clause-within
slots_of_first-requires-clause-within c =
    let x = c.args.self.now in
    let rule = c.in-Some.rule.now in
    let is = c.end_of_rule.ensures ∙ ap (λ (l : List ℕ). end_among (λ f. occurs_in f rule.left || occurs_in f rule.right) l) x.placed in
    let within = end_within (λ f. occurs_in f rule.left || occurs_in f rule.right) x.symbols.now in
    omega (arith, is, within)

pub slots_of_first-requires-clause-few : goal.slots_of_first-requires-clause-few
slots_of_first-requires-clause-few c =
    let x = c.args.self.now in
    let rule = c.in-Some.rule.now in
    let is = c.end_of_rule.ensures ∙ ap (λ (l : List ℕ). end_among (λ f. occurs_in f rule.left || occurs_in f rule.right) l) x.placed in
    few_of_rule x.arities.now x.symbols.now x.rules.now x.pairs.now x.owners.now c.end_of_rule.result (2 ^ 32) (λ f. occurs_in f rule.left || occurs_in f rule.right) x.owners_are is x.few_slots

pub returns-in-Some : goal.returns-in-Some
returns-in-Some c =
    let x = c.args.self.now in
    let rule = c.in-Some.rule.now in
    let is = c.end_of_rule.ensures ∙ ap (λ (l : List ℕ). end_among (λ f. occurs_in f rule.left || occurs_in f rule.right) l) x.placed in
    c.slots_of_first.ensures
    ∙ (ap (starts (parts_by x.arities.now) x.symbols.now) is ∙ sym (reach_of_rule x.arities.now x.symbols.now x.rules.now x.pairs.now x.owners.now c.args.c rule x.owners_are (sym c.in-Some.ensures)))

pub returns-in-None : goal.returns-in-None
returns-in-None c =
    let x = c.args.self.now in
    c.slots.ensures ∙ sym (reach_of_last x.arities.now x.symbols.now x.rules.now x.pairs.now x.owners.now c.args.c x.owners_are (sym c.in-None.ensures) c.requires)
