use Rattle.std.proofs.Common.{inl, inr, refl, arith}
use Rattle.dp_graph.proofs.places.add_item.Goals as goal

pub returns-in_ok-push : goal.returns-in_ok-push
returns-in_ok-push c = λ leaders size own are. inl (omega (arith, c.if-v-problem.true), (c.in_ok-item.field-0, c.in_ok-item.ensures leaders size own are, c.in_ok-push.ensures.items))

pub returns-else-v-problem : goal.returns-else-v-problem
returns-else-v-problem c = λ leaders size own are. inr (omega (arith, c.if-v-problem.false), refl)
