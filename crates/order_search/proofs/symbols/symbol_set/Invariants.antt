use Rattle.std.proofs.Common.{drop}
use Rattle.dp_core.specs.Symbols.{symbols_of_rules}
use Rattle.order_search.proofs.Growing.{MissesOnly}
use Rattle.order_search.proofs.symbols.symbol_set.Given as goal

abbrev pub invariant-loop-rule : goal.invariant-loop-rule
invariant-loop-rule l = MissesOnly l.set.items (symbols_of_rules l.rules) (symbols_of_rules (drop l.rule-index l.rules))
