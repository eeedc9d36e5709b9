use Rattle.std.proofs.Common.{take}
use Rattle.term_pool.specs.Pooled.{tree_at}
use Rattle.term_pool.proofs.RootRules.{NoneSuch, Matches}
use Rattle.completion.proofs.searching.root_redex.Given as goal

abbrev pub invariant-loop-k : goal.invariant-loop-k
invariant-loop-k l = NoneSuch (Matches (tree_at l.pool l.id)) l.system.rules (take l.k-index l.k-items)
