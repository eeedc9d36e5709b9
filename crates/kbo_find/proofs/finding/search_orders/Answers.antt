use Rattle.std.proofs.Common.{◌≡◌, length, map, ap, ◌∙◌, arith}
use Rattle.std.proofs.lemmas.List.{length-map}
use Rattle.order_search.specs.OrderSpace.{arity_with_mark}
use Rattle.kbo_find.specs.KboSpace.{kbo_tops}
use Rattle.kbo_find.specs.KboPlaces.{asked_of}
use Rattle.kbo_find.specs.Balanced.{rule_of}
use Rattle.kbo_find.proofs.KboPuzzle.{few_tops}
use Rattle.kbo_find.proofs.finding.search_orders.Goals as goal

pub invariant_of-space : goal.invariant_of-space
invariant_of-space g c =
    let symbols = c.args.symbols.now in
    let tops = c.deref.result.now in
    let are : map asked_of tops ≡ kbo_tops (arity_with_mark c.args.arities.now) symbols = ap (map asked_of) c.deref.ensures.value ∙ c.in_ok-tops.ensures in
    let few = few_tops (arity_with_mark c.args.arities.now) symbols c.requires.few_symbols in
    let same : length (map asked_of tops) ≡ length (kbo_tops (arity_with_mark c.args.arities.now) symbols) = ap length are in
    let mapped = length-map tops asked_of in
    record {
      placed = c.in_ok-places.ensures;
      distinct = c.requires.distinct;
      tops_are = are;
      balanced = ap (map rule_of) c.deref-2.ensures.value ∙ c.in_ok-balances.ensures;
      few_symbols = omega (arith, c.requires.few_symbols);
      few_constraints = omega (arith, few, same, mapped, c.requires.few_falling);
    }
