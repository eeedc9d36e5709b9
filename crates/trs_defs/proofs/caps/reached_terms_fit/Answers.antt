use Rattle.trs_defs.proofs.CapLaws.{reached_fits}
use Rattle.trs_defs.proofs.caps.reached_terms_fit.Goals as goal

pub returns : goal.returns
returns c = reached_fits
