use Rattle.std.proofs.Common.{◌≡◌, ◌+◌, ◌-◌, ◌<◌, ◌^◌, min, max, drop}
use Rattle.trs_defs.specs.Size.{size_of, size_of_all, depth_of, depth_of_all}
use Rattle.trs_defs.specs.Substitution.{apply, apply_all}
use Rattle.trs_core.specs.View.{tree, forest}
use Rattle.term_pool.specs.Bindings.{bound_terms}
use Rattle.term_pool.proofs.pools.Pool.+instance_measure.Given as goal

abbrev pub invariant-loop-arg : goal.invariant-loop-arg
invariant-loop-arg l = record {
  count : l.size < 2 ^ 32;
  size : min (l.size + size_of_all (apply_all (bound_terms l.self l.found) (forest (drop l.arg-index l.arg-items)))) (2 ^ 32 - 1) ≡ min (size_of (apply (bound_terms l.self l.found) (tree l.t))) (2 ^ 32 - 1);
  depth : min (1 + max l.deepest (depth_of_all (apply_all (bound_terms l.self l.found) (forest (drop l.arg-index l.arg-items))))) (2 ^ 32 - 1) ≡ min (depth_of (apply (bound_terms l.self l.found) (tree l.t))) (2 ^ 32 - 1);
}
