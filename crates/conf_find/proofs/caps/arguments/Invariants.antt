use Rattle.std.proofs.Common.{◌≡◌, ◌<◌, ℕ, All, length, map, take}
use Rattle.trs_defs.specs.Tree.{Trees, app, items}
use Rattle.term_pool.specs.Pooled.{tree_at}
use Rattle.conf_find.proofs.caps.arguments.Given as goal

abbrev pub invariant-loop-i : goal.invariant-loop-i
invariant-loop-i l = record {
  terms : (f : ℕ) (ts : Trees) → tree_at l.pool l.id ≡ app f ts → map (tree_at l.pool) l.ids.items ≡ take l.i (items ts);
  there : All (λ j. j < length l.pool) l.ids.items;
}
