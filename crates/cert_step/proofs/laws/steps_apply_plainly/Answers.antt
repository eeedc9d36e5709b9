use Rattle.cert_step.proofs.AnyWay.{applies_plainly}
use Rattle.cert_step.proofs.laws.steps_apply_plainly.Goals as goal

pub returns : goal.returns
returns c = applies_plainly
