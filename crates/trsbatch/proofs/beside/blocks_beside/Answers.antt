use Rattle.std.proofs.Common.{arith, ◌<◌, All, length, sym, subst}
use Rattle.trsbatch.proofs.Placing.{ordered_within}
use Rattle.trsbatch.proofs.beside.blocks_beside.Goals as goal

pub blocks_of-requires-clause-slots : goal.blocks_of-requires-clause-slots
blocks_of-requires-clause-slots g c κs live =
    c.in_ok-slots.ensures c.args.question c.args.budget (λ i d within.
    let len = c.in_ok-placed.ensures.len in c.in_ok-placed.ensures.each i d (omega (arith, len, within)))

pub placed_blocks-requires-clause-order : goal.placed_blocks-requires-clause-order
placed_blocks-requires-clause-order g c κs within =
    subst (All (λ place. place < length c.args.problems.now)) (sym c.deref.ensures.value)
    (ordered_within (length c.args.problems.now) c.in_ok-order.order.items c.in_ok-order.ensures)
