use Rattle.std.proofs.Common.{◌++◌}
use Rattle.dp_core.specs.Symbols.{symbols_of_rules, symbols_below_roots}
use Rattle.order_search.proofs.Growing.{listed_ascend, only_more}
use Rattle.order_search.proofs.below_roots.plain_symbols.Goals as goal

pub returns : goal.returns
returns c =
    listed_ascend c.add_below_roots.new.set.items (symbols_of_rules c.args.rules.now ++ symbols_below_roots c.args.pairs.now) c.list_members.result (rw c.deref.ensures.value at c.list_members.ensures)
    (only_more c.in_ok-set.set.items c.add_below_roots.new.set.items (symbols_of_rules c.args.rules.now) (symbols_below_roots c.args.pairs.now) c.in_ok-set.ensures c.in_ok-add_below_roots.ensures)
