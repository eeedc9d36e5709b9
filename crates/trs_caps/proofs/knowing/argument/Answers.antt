use Rattle.std.proofs.Common.{subst}
use Rattle.trs_caps.specs.KnownCaps.{IsIdOf}
use Rattle.trs_caps.proofs.KnownSteps.{argument_id}
use Rattle.trs_caps.proofs.knowing.argument.Goals as goal

pub returns : goal.returns
returns c = λ t u at arg. argument_id c.args.pool.now c.in-Some.whole c.args.i t u c.from_ref.result.now c.at.result c.from_ref.ensures.value (subst (λ o. IsIdOf c.args.pool.now o t) c.in-Some.is at) arg c.at.ensures.is c.at.ensures.there
