use Rattle.loop_find.proofs.instances.is_instance.Goals as goal

pub returns-then-not-may_match : goal.returns-then-not-may_match
returns-then-not-may_match c = (λ e. absurd cc, λ h. absurd (c.may_match.ensures c.if-not-may_match.true h))
