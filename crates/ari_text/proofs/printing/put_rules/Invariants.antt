use Rattle.std.proofs.Common.{◌≡◌, ◌++◌, drop}
use Rattle.sexp_core.specs.Printed.{lines}
use Rattle.ari_text.specs.PrintedProblem.{rule_items}
use Rattle.ari_text.proofs.printing.put_rules.Given as goal

abbrev pub invariant-loop-rule : goal.invariant-loop-rule
invariant-loop-rule l =
    l.out.items ++ lines (rule_items l.underscores l.system.names (drop l.rule-index l.rules))
    ≡ l.fn.out.items ++ lines (rule_items l.underscores l.system.names l.rules)
