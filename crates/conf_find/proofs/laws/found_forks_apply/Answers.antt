use Rattle.conf_find.proofs.ForkLaw.{found_forks_apply}
use Rattle.conf_find.proofs.laws.found_forks_apply.Goals as goal

pub returns : goal.returns
returns c = λ system peaks fork valid. found_forks_apply system valid peaks fork
