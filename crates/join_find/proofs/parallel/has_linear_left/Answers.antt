use Rattle.join_find.proofs.parallel.has_linear_left.Goals as goal

pub returns : goal.returns
returns c = rw (← c.rule.view_is) (λ e. c.is_linear.ensures.0 e, λ h. c.is_linear.ensures.1 h)
