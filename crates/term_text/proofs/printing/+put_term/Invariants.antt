use Rattle.std.proofs.Common.{◌≡◌, ◌++◌, drop}
use Rattle.sexp_core.specs.Printed.{spaced}
use Rattle.trs_core.specs.View.{forest}
use Rattle.term_text.specs.PrintedTerm.{term_items}
use Rattle.term_text.proofs.printing.+put_term.Given as goal

abbrev pub invariant-loop-arg : goal.invariant-loop-arg
invariant-loop-arg l =
    l.out.items ++ spaced (term_items l.underscores l.system.names (forest (drop l.arg-index l.arg-items)))
    ≡ l.initial.out.items ++ spaced (term_items l.underscores l.system.names (forest l.arg-items))
