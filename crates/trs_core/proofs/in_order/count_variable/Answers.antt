use Rattle.std.proofs.Common.{arith}
use Rattle.std.proofs.lemmas.Bool.Decides.{nat_tests}
use Rattle.trs_defs.proofs.VariableLaws.{has_var_self}
use Rattle.trs_core.proofs.in_order.count_variable.Goals as goal

pub returns-then-x-count-clause-twice : goal.returns-then-x-count-clause-twice
returns-then-x-count-clause-twice c _ = (c.args.x, rw (has_var_self c.args.x) (grind (arith, nat_tests, c.if-x-count.true)))
