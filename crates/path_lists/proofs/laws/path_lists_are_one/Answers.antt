use Rattle.path_lists.proofs.PathsOnce.{path_lists_once}
use Rattle.path_lists.proofs.laws.path_lists_are_one.Goals as goal

pub returns : goal.returns
returns c = λ system t es fs valid h k. path_lists_once system valid t es fs h k
