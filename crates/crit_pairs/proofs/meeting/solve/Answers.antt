use Rattle.trs_core.specs.View.{tree}
use Rattle.crit_pairs.proofs.Bindings.{solution_found, no_solution, equal_at_most, equal_exactly}
use Rattle.crit_pairs.proofs.meeting.solve.Goals as goal

pub returns-in-None : goal.returns-in-None
returns-in-None c =
    let bindings = c.meet.new.bindings in
    solution_found (tree c.args.a.now) (tree c.args.b.now) bindings.list.items bindings.levels
    (equal_exactly (tree c.args.a.now) (tree c.args.b.now) c.none-bindings.result.list.items bindings.list.items c.none-bindings.ensures (rw c.in-Met.is at c.in_ok-meeting.ensures))
    c.in-None.ensures

pub returns-in-Some : goal.returns-in-Some
returns-in-Some c =
    c.follow.ensures (tree c.args.a.now) (tree c.args.b.now)
    (equal_exactly (tree c.args.a.now) (tree c.args.b.now) c.none-bindings.result.list.items c.meet.new.bindings.list.items c.none-bindings.ensures
    (rw c.in-Met.is at c.in_ok-meeting.ensures))

pub returns-in-Apart : goal.returns-in-Apart
returns-in-Apart c =
    no_solution (tree c.args.a.now) (tree c.args.b.now) c.none-bindings.result.list.items c.none-bindings.ensures (rw c.in-Apart.is at c.in_ok-meeting.ensures)

pub returns-in-Unclear : goal.returns-in-Unclear
returns-in-Unclear c =
    c.refute.ensures (tree c.args.a.now) (tree c.args.b.now)
    (equal_at_most (tree c.args.a.now) (tree c.args.b.now) c.none-bindings.result.list.items c.meet.new.bindings.list.items c.none-bindings.ensures
    (rw c.in-Unclear.is at c.in_ok-meeting.ensures))
