use Rattle.nonjoin.proofs.ApartLaws.{system_apart}
use Rattle.nonjoin.proofs.laws.apart_terms_are_not_joinable.Goals as goal

pub returns : goal.returns
returns c = system_apart
