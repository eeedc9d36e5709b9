use Rattle.std.proofs.Common.{drop}
use Rattle.trs_core.specs.View.{tree, forest}
use Rattle.term_pool.specs.Redex.{HasRedex, SomeHasRedex}
use Rattle.rewrite_core.proofs.refuting.+may_have_redex.Given as goal

abbrev pub invariant-loop-arg : goal.invariant-loop-arg
invariant-loop-arg l = HasRedex l.by_root.rules (tree l.t) → SomeHasRedex l.by_root.rules (forest (drop l.arg-index l.arg-items))
