use Rattle.std.proofs.Common.{sym, ◌∙◌}
use Rattle.join_find.proofs.KeptOfSides.{same_pool, same_still, grown_still}
use Rattle.join_find.proofs.reached_sides.ReachedSides.intern.Goals as goal

pub returns-then-len-mark-clause-sides : goal.returns-then-len-mark-clause-sides
returns-then-len-mark-clause-sides c = λ rules sides.
    same_still rules c.args.self.now sides c.take_over.new.self c.take_over.new.known
    (same_pool c.args.self.now.pool c.take_over.new.self c.mark-mark.result c.in_ok-id.ensures.kept c.mark-mark.ensures (sym c.len.ensures.len ∙ c.if-len-mark.true))

pub returns-clause-sides : goal.returns-clause-sides
returns-clause-sides c = λ rules sides.
    grown_still rules c.args.self.now sides c.take_over.new.self c.take_over.new.known c.in_ok-id.ensures.kept c.new.result c.new.ensures
