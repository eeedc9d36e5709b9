use Rattle.std.proofs.Common.{sym}
use Rattle.dp_core.proofs.Missing.{has_place}
use Rattle.dp_core.proofs.subterm.with_root.Goals as goal

pub returns-in-Some : goal.returns-in-Some
returns-in-Some c = λ symbols h. has_place c.args.projection.now c.args.f symbols c.in-Some.field-0 c.args.least (sym c.in-Some.ensures) h

pub returns-in-None : goal.returns-in-None
returns-in-None c = λ symbols h. c.lower.ensures c.args.projection.now symbols (sym c.in-None.ensures) h
