use Rattle.path_lists.proofs.PathLaws.{paths_lead}
use Rattle.path_lists.proofs.laws.listed_paths_lead.Goals as goal

pub returns : goal.returns
returns c = paths_lead
