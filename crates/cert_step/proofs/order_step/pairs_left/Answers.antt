use Rattle.cert_step.proofs.order_step.pairs_left.Goals as goal

pub returns-in-Poly : goal.returns-in-Poly
returns-in-Poly c = rw c.in-Poly.is c.pair_check.ensures.answers
