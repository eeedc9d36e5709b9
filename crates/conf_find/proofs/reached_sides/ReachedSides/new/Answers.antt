use Rattle.conf_find.proofs.reached_sides.ReachedSides.new.Goals as goal

pub returns-clause-known : goal.returns-clause-known
returns-clause-known c = λ rules. c.new-3.ensures rules c.new.result
