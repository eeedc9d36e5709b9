use Rattle.std.proofs.Common.{◌≡◌, ◌≤◌, ◌↔◌, ℕ, ◌+◌, ◌-◌, ◌||◌, nat_lt, drop}
use Rattle.trs_defs.specs.Size.{size_of, size_of_all, depth_of, depth_of_all}
use Rattle.trs_defs.specs.Variable.{has_var, some_has_var}
use Rattle.trs_defs.specs.WellFormed.{IsWellFormed, AreWellFormed}
use Rattle.trs_core.specs.View.{tree, forest}
use Rattle.trs_core.proofs.plain.+is_plain.Given as goal

abbrev pub invariant-loop-arg : goal.invariant-loop-arg
invariant-loop-arg l = record {
  well_formed : AreWellFormed l.arities (forest (drop l.arg-index l.arg-items)) ↔ IsWellFormed l.arities (tree l.t);
  depth : depth_of_all (forest (drop l.arg-index l.arg-items)) ≤ l.depth - 1 → depth_of (tree l.t) ≤ l.depth;
  nodes : l.tally.nodes + size_of (tree l.t) ≡ l.fn.tally.nodes + size_of_all (forest (drop l.arg-index l.arg-items));
  variables : (v : ℕ)
      → (nat_lt v l.tally.variables || some_has_var v (forest (drop l.arg-index l.arg-items)))
      ≡ (nat_lt v l.fn.tally.variables || has_var v (tree l.t));
  small : l.fn.tally.variables ≤ 65536 → l.tally.variables ≤ 65536;
}
