use Rattle.std.proofs.Common.{◌≡◌, ◌++◌, drop}
use Rattle.sexp_core.specs.Items.{no_items}
use Rattle.sexp_core.specs.Printed.{lines}
use Rattle.ari_text.specs.PrintedProblem.{symbol_items}
use Rattle.ari_text.proofs.printing.put_symbols.Given as goal

abbrev pub invariant-loop-f : goal.invariant-loop-f
invariant-loop-f l =
    l.out.items ++ lines (symbol_items (drop l.f l.system.names) (drop l.f l.system.system.arities) no_items)
    ≡ l.fn.out.items ++ lines (symbol_items l.system.names l.system.system.arities no_items)
