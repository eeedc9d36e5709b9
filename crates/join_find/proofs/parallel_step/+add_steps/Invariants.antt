use Rattle.std.proofs.Common.{◌≡◌, ◌+◌, ◌≤◌, List, ◌++◌, map, drop}
use Rattle.trs_defs.specs.Tree.{trees, items}
use Rattle.trs_defs.specs.Path.{PlacedRule}
use Rattle.trs_defs.specs.Size.{size_of}
use Rattle.term_pool.specs.Pooled.{tree_at}
use Rattle.term_pool.specs.Redexes.{Grows, below}
use Rattle.join_find.specs.Alike.{AreAlike}
use Rattle.join_find.specs.ParallelRow.{IsParallelStep, AreParallelSteps}
use Rattle.join_find.proofs.parallel_step.+add_steps.Given as goal

abbrev pub invariant-loop-i : goal.invariant-loop-i
invariant-loop-i l = record {
  same : l.pool ≡ l.fn.pool;
  placed : l.place.items ≡ l.fn.place.items;
  rest : (a : AreAlike (tree_at l.fn.pool l.ids.0) (tree_at l.fn.pool l.ids.1) l.count) (rest : List PlacedRule)
      → AreParallelSteps l.trs.rules (l.i + 1) (trees (drop l.i (items a.lefts))) (trees (drop l.i (items a.rights))) rest
      → Grows l.fn.place.items (IsParallelStep l.trs.rules (tree_at l.fn.pool l.ids.0) (tree_at l.fn.pool l.ids.1)) l.fn.steps.items (l.steps.items ++ map (below l.fn.place.items) rest);
  none : (a : AreAlike (tree_at l.fn.pool l.ids.0) (tree_at l.fn.pool l.ids.1) l.count)
      → ((rest : List PlacedRule) → AreParallelSteps l.trs.rules (l.i + 1) (trees (drop l.i (items a.lefts))) (trees (drop l.i (items a.rights))) rest → ⊥)
      → (ss : List PlacedRule) → IsParallelStep l.trs.rules (tree_at l.fn.pool l.ids.0) (tree_at l.fn.pool l.ids.1) ss → ⊥;
  few : l.count ≤ 255;
}

abbrev pub decreases-add_steps : goal.decreases-add_steps
decreases-add_steps l = size_of (tree_at l.pool.now l.ids.0)
