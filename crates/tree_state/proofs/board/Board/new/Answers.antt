use Rattle.std.proofs.Common.{◌∙◌, false, map, None, refl, ap, arith}
use Rattle.tree_definitions.specs.declared.goal.Goal.TheVariants.{Terminating}
use Rattle.tree_definitions.specs.States.{roots_from}
use Rattle.tree_state.specs.Parts.{fresh_goals}
use Rattle.tree_state.specs.Seen.{entry_of, node_of}
use Rattle.tree_state.proofs.FirstRoots.{few_roots, goals_next, roots_next, all_roots}
use Rattle.tree_state.proofs.board.Board.new.Goals as goal

pub loop-goal-init : goal.loop-goal-init
loop-goal-init c = record {
  within = λ bound. rw c.new-nodes.ensures.items tt;
  goals = c.new-goals.ensures.items;
  nodes = λ history. ap (map (node_of history)) c.new-nodes.ensures.items;
}

pub push_root-requires : goal.push_root-requires
push_root-requires c =
    let few = few_roots c.args.question c.goals_of-goal-items.result.now c.loop-goal.goal-index c.loop-goal.goals.items c.goals_of-goal-items.ensures c.loop-goal.invariant.goals in
    omega (arith, few)

pub loop-goal-preserved : goal.loop-goal-preserved
loop-goal-preserved c =
    let goals = c.goals_of-goal-items.result.now in
    let i = c.loop-goal.goal-index in
    let so_far = c.loop-goal.invariant in
    let more = c.in_ok-push_root.ensures in
    record {
      within = λ bound. more.within bound (so_far.within bound);
      goals = goals_next goals i Terminating c.loop-goal.goals.items c.push_root.new.goals.items c.loop-goal-test.true so_far.goals more.goals;
      nodes = λ history.
          roots_next goals i Terminating c.loop-goal.goals.items (map (node_of history) c.loop-goal.nodes.items) (map (node_of history) c.push_root.new.nodes.items)
          c.loop-goal-test.true so_far.goals (so_far.nodes history) (more.nodes history);
    }

pub invariant_of-result : goal.invariant_of-result
invariant_of-result c = rw c.new.ensures.items (c.loop-goal.invariant.within 0)

pub returns : goal.returns
returns c =
    let all = all_roots c.args.question c.goals_of-goal-items.result.now c.loop-goal.goal-index c.goals_of-goal-items.ensures (omega (arith, c.loop-goal-test.false)) in
    let nodes = c.loop-goal.invariant.nodes (map entry_of c.new.result.items) ∙ ap (roots_from 0) all in
    record {
      history = ap (map entry_of) c.new.ensures.items;
      state = λ i. record { nodes = nodes i; tickets = c.new-2.ensures.items i; winner = None; is_aborted = false };
      goals = c.loop-goal.invariant.goals ∙ ap fresh_goals all;
      running = refl;
      cursor = refl;
    }
