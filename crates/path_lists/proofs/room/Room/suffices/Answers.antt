use Rattle.std.proofs.Common.{arith}
use Rattle.path_lists.proofs.Growing.{at_most}
use Rattle.path_lists.proofs.room.Room.suffices.Goals as goal

pub returns : goal.returns
returns c = λ yes s t u p small follows step.
    let sum = c.saturating_add.ensures in
    let few = at_most c.saturating_add.result 4096 yes in
    let before = c.most_nodes-most.ensures (omega (arith, few, sum)) s t small follows in
    let more = c.growth_by-more.ensures p t u step in
    omega (arith, before, more, few, sum)
