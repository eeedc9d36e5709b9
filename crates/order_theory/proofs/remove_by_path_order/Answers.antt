use Rattle.order_theory.proofs.Removals.{remove_by_path_order}
use Rattle.order_theory.proofs.remove_by_path_order.Goals as goal

pub returns : goal.returns
returns c = record { finite = remove_by_path_order }
