use Rattle.std.proofs.Common.{◌≡◌, [], All, take}
use Rattle.trs_defs.specs.Path.{StepsAt}
use Rattle.term_pool.specs.Pooled.{tree_at}
use Rattle.join_find.proofs.root_rule.root_rule.Given as goal

abbrev pub invariant-loop-k : goal.invariant-loop-k
invariant-loop-k l = record {
  same : l.pool ≡ l.fn.pool;
  none : All (λ k. StepsAt l.trs.rules [] k (tree_at l.fn.pool l.ids.0) (tree_at l.fn.pool l.ids.1) → ⊥) (take l.k-index l.k-items);
}
