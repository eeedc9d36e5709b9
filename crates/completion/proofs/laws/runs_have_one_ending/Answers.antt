use Rattle.completion.specs.GreaterBy.{GreaterBy}
use Rattle.completion.proofs.OneEnding.{completes_once}
use Rattle.completion.proofs.laws.runs_have_one_ending.Goals as goal

pub returns : goal.returns
returns c = λ equations order budget one other valid reduction a b. completes_once equations valid (GreaterBy order) reduction budget one other a b
