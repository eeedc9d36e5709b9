use Rattle.std.proofs.Common.{◌≡◌, ◌++◌, drop}
use Rattle.sexp_core.specs.Items.{items_of}
use Rattle.sexp_core.specs.Printed.{lines}
use Rattle.path_text.specs.Defining.{define_items}
use Rattle.path_text.proofs.defining.put_definitions.Given as goal

abbrev pub invariant-loop-k : goal.invariant-loop-k
invariant-loop-k l =
    l.out.items ++ lines (items_of (define_items l.k (drop l.k l.names))) ≡ l.initial.out.items ++ lines (items_of (define_items 0 l.names))
