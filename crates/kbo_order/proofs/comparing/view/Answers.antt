use Rattle.std.proofs.Common.{arith}
use Rattle.kbo_order.proofs.comparing.view.Goals as goal

pub new-balances-requires : goal.new-balances-requires
new-balances-requires g c = omega arith

pub see-requires : goal.see-requires
see-requires g c = (omega arith, (c.requires.some, c.new-balances.ensures))
