use Rattle.std.proofs.Common.{take}
use Rattle.trs_core.specs.View.{tree}
use Rattle.term_pool.proofs.RootRules.{NoneSuch, Matches}
use Rattle.rewrite_core.proofs.refuting.may_be_redex.Given as goal

abbrev pub invariant-loop-k : goal.invariant-loop-k
invariant-loop-k l = NoneSuch (Matches (tree l.t)) l.rules (take l.k-index l.k-items)
