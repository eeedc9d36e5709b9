use Rattle.std.proofs.Common.{true, drop}
use Rattle.trs_defs.specs.Member.{In}
use Rattle.dp_core.proofs.subterm.is_any.Given as goal

abbrev pub invariant-loop-flag : goal.invariant-loop-flag
invariant-loop-flag l = In true l.flags → In true (drop l.flag-index l.flags)
