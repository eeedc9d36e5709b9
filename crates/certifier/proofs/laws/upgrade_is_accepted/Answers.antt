use Rattle.certifier.proofs.Upgraded.{upgrade_accepted}
use Rattle.certifier.proofs.laws.upgrade_is_accepted.Goals as goal

pub returns : goal.returns
returns c = upgrade_accepted
