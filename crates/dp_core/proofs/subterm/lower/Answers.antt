use Rattle.std.proofs.Common.{subst, arith}
use Rattle.dp_core.specs.LeastMissing.{IsLeastMissing}
use Rattle.dp_core.proofs.Missing.{first_missing, lower_missing, upper_missing}
use Rattle.dp_core.proofs.subterm.lower.Goals as goal

pub returns-then-f-g : goal.returns-then-f-g
returns-then-f-g c = λ projection symbols e h. lower_missing projection c.args.f symbols c.in-Some.g e c.if-f-g.true (subst (λ o. IsLeastMissing projection symbols o) c.in-Some.is h)

pub returns-in-None : goal.returns-in-None
returns-in-None c = λ projection symbols e h. first_missing projection c.args.f symbols e (subst (λ o. IsLeastMissing projection symbols o) c.in-None.is h)

pub returns-else-f-g : goal.returns-else-f-g
returns-else-f-g c = λ projection symbols e h. upper_missing projection c.args.f symbols c.in-Some.g (omega (arith, c.if-f-g.false)) (subst (λ o. IsLeastMissing projection symbols o) c.in-Some.is h)
