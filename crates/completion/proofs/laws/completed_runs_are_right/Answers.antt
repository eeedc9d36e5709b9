use Rattle.completion.specs.GreaterBy.{GreaterBy}
use Rattle.completion.proofs.RightEndings.{completes_right}
use Rattle.completion.proofs.PathReductions.{reduction_order}
use Rattle.completion.proofs.laws.completed_runs_are_right.Goals as goal

pub returns : goal.returns
returns c = record {
  right = λ equations order budget ending valid reduction run. completes_right equations valid (GreaterBy order) reduction budget ending run;
  path = reduction_order;
}
