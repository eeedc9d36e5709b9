use Rattle.std.proofs.Common.{◌≡◌, ◌≤◌, ◌++◌, List, drop, length}
use Rattle.trs_defs.specs.System.{RewriteRule}
use Rattle.term_pool.specs.Pooled.{Extends}
use Rattle.crit_pairs.specs.Table.{Site, sites_from}
use Rattle.crit_pairs.specs.Growing.{IsGrown}
use Rattle.crit_pairs.proofs.growing.grow_rules.Given as goal

abbrev pub invariant-loop-j : goal.invariant-loop-j
invariant-loop-j l = record {
  grows : (known more : List RewriteRule) → l.rules ≡ known ++ more → l.end ≡ length known → (left after : List Site)
      → IsGrown l.rules l.from l.fn.pool l.fn.growth (sites_from l.start (drop l.start known) ++ left) after
      → IsGrown l.rules l.from l.pool l.growth (sites_from l.j (drop l.j known) ++ left) after;
  kept : Extends l.fn.pool l.pool;
  inside : l.growth.done ≤ length l.growth.lists.items;
}
