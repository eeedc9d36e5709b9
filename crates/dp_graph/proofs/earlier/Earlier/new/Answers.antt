use Rattle.dp_graph.proofs.EarlierLaws.{none_earlier}
use Rattle.dp_graph.proofs.earlier.Earlier.new.Goals as goal

pub returns : goal.returns
returns c = λ system. none_earlier system (record { by_root = c.new.result; rules = c.new-2.result }) c.new.ensures.empty c.new-2.ensures.items
