use Rattle.cert_step.proofs.Opposites.{claims_exclude}
use Rattle.cert_step.proofs.laws.opposite_claims_exclude_each_other.Goals as goal

pub returns : goal.returns
returns c = claims_exclude
