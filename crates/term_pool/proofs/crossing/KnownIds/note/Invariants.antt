use Rattle.std.proofs.Common.{◌+◌, ◌-◌, length}
use Rattle.term_pool.proofs.CrossingLaws.{KnowsNoMore}
use Rattle.term_pool.proofs.crossing.KnownIds.note.Given as goal

abbrev pub invariant-loop-self : goal.invariant-loop-self
invariant-loop-self l = KnowsNoMore l.fn.self.by_id.items l.self.by_id.items

abbrev pub decreases-loop-self : goal.decreases-loop-self
decreases-loop-self l = (l.place + 1) - length l.self.by_id.items
