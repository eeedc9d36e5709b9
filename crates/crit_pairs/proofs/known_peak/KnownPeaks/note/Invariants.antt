use Rattle.std.proofs.Common.{◌-◌, ◌+◌, ℕ, List, length}
use Rattle.trs_defs.specs.Tree.{Tree}
use Rattle.trs_defs.specs.System.{RewriteRule}
use Rattle.crit_pairs.specs.KnownPeaks.{KnowsEach}
use Rattle.crit_pairs.proofs.known_peak.KnownPeaks.note.Given as goal

abbrev pub invariant-loop-self : goal.invariant-loop-self
invariant-loop-self l = (rules : List RewriteRule) (j : ℕ) (p : List ℕ) (pool : List Tree) → KnowsEach rules j p pool l.fn.self.by_first.items → KnowsEach rules j p pool l.self.by_first.items

abbrev pub decreases-loop-self : goal.decreases-loop-self
decreases-loop-self l = (l.first + 1) - length l.self.by_first.items
