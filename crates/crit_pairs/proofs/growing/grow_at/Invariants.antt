use Rattle.std.proofs.Common.{◌<◌, ◌∷◌, List, length}
use Rattle.term_pool.specs.Pooled.{Extends}
use Rattle.crit_pairs.specs.Table.{Site, site}
use Rattle.crit_pairs.specs.Growing.{IsGrown, IsAtSite}
use Rattle.crit_pairs.specs.KnownPeaks.{KnowsEach}
use Rattle.crit_pairs.proofs.growing.grow_at.Given as goal

abbrev pub invariant-loop-i : goal.invariant-loop-i
invariant-loop-i l = record {
  stands : (left after : List Site) → IsGrown l.rules l.from l.fn.pool l.fn.growth (site l.j l.place ∷ left) after
      → IsAtSite l.rules l.i l.from l.pool l.growth (site l.j l.place) left after;
  known : KnowsEach l.rules l.j l.place l.pool l.known.by_first.items;
  kept : Extends l.fn.pool l.pool;
  inside : l.growth.done < length l.growth.lists.items;
}
