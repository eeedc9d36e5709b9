use Rattle.std.proofs.Common.{◌≡◌, ◌+◌, ◌∷◌, length, arith}
use Rattle.std.specs.Vec.Iter.{into_iter_items}
use Rattle.tree_state.proofs.Appending.{append_step, append_within}
use Rattle.tree_state.proofs.node_lists.append_nodes.Goals as goal

pub loop-problem-preserved : goal.loop-problem-preserved
loop-problem-preserved c =
    let steps : into_iter_items c.loop-problem.problem-iterator ≡ c.in-Some.problem ∷ into_iter_items c.next.new.self = c.in-Some.ensures.steps.0 in
    let longer : length (into_iter_items c.loop-problem.problem-iterator) ≡ length (into_iter_items c.next.new.self) + 1 = rw steps (omega arith) in
    let more = c.push_reserved.ensures.items in (
      omega (arith, longer, c.loop-problem.invariant.0, c.push_reserved.ensures.len, c.push_reserved.ensures.capacity),
      λ bound w. append_within bound c.loop-problem.nodes.items c.push_reserved.new.self.items c.new.result more c.new.ensures.open (c.loop-problem.invariant.1 bound w),
      λ history.
          append_step history c.loop-problem.nodes.items c.push_reserved.new.self.items c.new.result c.args.goal c.in-Some.problem (into_iter_items c.next.new.self)
          (into_iter_items c.loop-problem.problem-iterator) _ more (c.new.ensures.seen history) steps (c.loop-problem.invariant.2 history),
    )
