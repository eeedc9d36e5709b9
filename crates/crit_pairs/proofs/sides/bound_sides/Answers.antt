use Rattle.crit_pairs.proofs.Renumbering.{none_distinct}
use Rattle.crit_pairs.proofs.sides.bound_sides.Goals as goal

pub renumber-requires : goal.renumber-requires
renumber-requires c = rw c.clear.ensures none_distinct

pub returns : goal.returns
returns c = record {
  first = c.renumber.new.names.order.items;
  second = c.renumber-2.new.names.order.items;
  third = c.renumber-3.new.names.order.items;
  top_renamed = rw c.clear.ensures at c.in_ok-first.ensures.renamed;
  left_renamed = c.in_ok-second.ensures.renamed;
  right_renamed = c.in_ok-third.ensures.renamed;
  distinct = c.in_ok-third.ensures.distinct;
}
