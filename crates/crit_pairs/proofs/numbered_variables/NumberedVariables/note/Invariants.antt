use Rattle.std.proofs.Common.{◌+◌, ◌-◌, length}
use Rattle.term_pool.proofs.CrossingLaws.{KnowsNoMore}
use Rattle.crit_pairs.proofs.numbered_variables.NumberedVariables.note.Given as goal

abbrev pub invariant-loop-self : goal.invariant-loop-self
invariant-loop-self l = KnowsNoMore l.fn.self.ids.items l.self.ids.items

abbrev pub decreases-loop-self : goal.decreases-loop-self
decreases-loop-self l = (l.place + 1) - length l.self.ids.items
