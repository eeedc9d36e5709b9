use Rattle.std.proofs.Common.{◌≡◌}
use Rattle.term_pool.specs.Pooled.{Extends, tree_at}
use Rattle.completion.specs.MetTerms.{IsMet}
use Rattle.completion.proofs.FirstSteps.{IsOnTheWay}
use Rattle.completion.proofs.normalizing.normal_form.Given as goal

abbrev pub invariant-loop-why : goal.invariant-loop-why
invariant-loop-why l = record {
  way : IsOnTheWay l.system l.units l.left (tree_at l.fn.met.pool l.id) l.met.pool l.current;
  kept : Extends l.fn.met.pool l.met.pool;
  base : l.met.base ≡ l.fn.met.base;
  met : IsMet l.system.rules l.met;
}

abbrev pub decreases-loop-why : goal.decreases-loop-why
decreases-loop-why l = l.left
