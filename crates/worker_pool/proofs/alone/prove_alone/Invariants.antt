use Rattle.std.proofs.Common.{◌≡◌}
use Rattle.worker_pool.specs.Turns.{IsAtRest, entries_left}
use Rattle.worker_pool.proofs.alone.prove_alone.Given as goal

abbrev pub invariant-loop-searcher : goal.invariant-loop-searcher
invariant-loop-searcher l = record {
  rest : IsAtRest l.tree;
  searcher : l.searcher ≡ l.tree.system;
  question : l.tree.question ≡ l.fn.question;
  system : l.tree.system ≡ l.fn.trs;
  budget : l.tree.budget ≡ l.fn.limits.budget;
}

abbrev pub decreases-loop-searcher : goal.decreases-loop-searcher
decreases-loop-searcher l = entries_left l.tree
