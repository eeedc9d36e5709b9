use Rattle.std.proofs.Common.{map, ap, ◌∙◌, arith}
use Rattle.lpo_find.specs.Filters.{plain_filters}
use Rattle.lpo_find.proofs.finding.search_orders.Goals as goal

pub invariant_of-space : goal.invariant_of-space
invariant_of-space g c = record {
  placed = c.in_ok-places.ensures;
  filters_are = ap (map plain_filters) c.deref.ensures.value ∙ c.in_ok-filters.ensures;
  distinct = c.requires.distinct;
  covered = c.requires.covered;
  few_symbols = omega (arith, c.requires.few_symbols);
  few_falling = omega (arith, c.requires.few_falling);
}

pub find_first_by-requires : goal.find_first_by-requires
find_first_by-requires g c = record { serves = c.in_ok-kept.ensures c.args.arities.now c.args.symbols.now _ }
