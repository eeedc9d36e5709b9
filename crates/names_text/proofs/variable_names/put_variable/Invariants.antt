use Rattle.std.proofs.Common.{◌≡◌, ◌++◌, replicate}
use Rattle.names_text.proofs.variable_names.put_variable.Given as goal

abbrev pub invariant-loop-i : goal.invariant-loop-i
invariant-loop-i l = l.out.items ≡ l.fn.out.items ++ replicate l._i 95
