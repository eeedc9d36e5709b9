use Rattle.crit_pairs.proofs.Bindings.{solution_found}
use Rattle.crit_pairs.proofs.meeting.follow.Goals as goal

pub returns-then-ends : goal.returns-then-ends
returns-then-ends c =
    let bindings = c.ends.new.bindings in
    λ a b h. solution_found a b bindings.list.items bindings.levels (rw c.ends.ensures.list h) (c.ends.ensures.ends c.if-ends.true)
