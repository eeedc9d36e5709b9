use Rattle.std.proofs.Common.{refl}
use Rattle.dp_graph.proofs.word_rows.are_equal.Goals as goal

pub loop-i-init : goal.loop-i-init
loop-i-init c = refl
