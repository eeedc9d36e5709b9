use Rattle.dp_core.specs.Symbols.{symbols_of_rules}
use Rattle.order_search.proofs.Growing.{listed_ascend}
use Rattle.order_search.proofs.symbols.rule_symbols.Goals as goal

pub returns : goal.returns
returns c = listed_ascend c.in_ok-set.set.items (symbols_of_rules c.args.rules.now) c.list_members.result (rw c.deref.ensures.value at c.list_members.ensures) c.in_ok-set.ensures
