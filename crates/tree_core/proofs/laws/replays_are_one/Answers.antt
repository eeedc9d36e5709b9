use Rattle.tree_core.proofs.OneReplay.{one_replay}
use Rattle.tree_core.proofs.laws.replays_are_one.Goals as goal

pub returns : goal.returns
returns c = one_replay
