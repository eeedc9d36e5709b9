use Rattle.std.proofs.Common.{ℕ, map}
use Rattle.trs_defs.specs.Tree.{Tree}
use Rattle.trs_defs.specs.Size.{size_of}
use Rattle.trs_defs.specs.Substitution.{apply}
use Rattle.term_pool.specs.Pooled.{Extends, tree_at}
use Rattle.term_pool.specs.Instances.{AreInstances, IsNoted}
use Rattle.term_pool.proofs.InstanceLaws.{argument_terms}
use Rattle.term_pool.proofs.TakenArguments.{AreTaken}
use Rattle.term_pool.proofs.pools.Pool.+instance_by.Given as goal

abbrev pub decreases-instance_by : goal.decreases-instance_by
decreases-instance_by l = size_of (tree_at l.self.now l.id)

abbrev pub invariant-loop-i : goal.invariant-loop-i
invariant-loop-i l = record {
  kept : Extends l.fn.self l.self;
  noted : (i : ℕ) → IsNoted l.fn.made i → IsNoted l.made i;
  right : (s : ℕ → Tree) → AreInstances s l.fn.self l.fn.made
      → AreInstances s l.self l.made × AreTaken (map (apply s) (argument_terms (tree_at l.fn.self l.id))) l.fn.self l.self l.ids.items l.i;
}
