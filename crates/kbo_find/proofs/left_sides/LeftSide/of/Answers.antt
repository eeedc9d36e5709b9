use Rattle.std.proofs.Common.{sym, subst}
use Rattle.trs_core.specs.View.{tree}
use Rattle.kbo_find.specs.Counted.{AreCountsOf}
use Rattle.kbo_find.specs.declared.counts.Counts.{Counts}
use Rattle.kbo_find.proofs.OccurrenceSums.{counted, occurring}
use Rattle.kbo_find.proofs.left_sides.LeftSide.of.Goals as goal

pub invariant_of-result-clause-counted : goal.invariant_of-result-clause-counted
invariant_of-result-clause-counted c =
    subst (λ (n : Counts). AreCountsOf (tree c.args.term.now) n) (sym c.in_ok-counts-2.ensures.ok)
    (counted (tree c.args.term.now) c.in_ok-occurrences.occurrences c.in_ok-occurrences.ensures c.in_ok-counts.counts c.in_ok-counts.ensures)

pub invariant_of-result-clause-listed : goal.invariant_of-result-clause-listed
invariant_of-result-clause-listed c = occurring (tree c.args.term.now) c.in_ok-occurrences.occurrences c.in_ok-occurrences.ensures
