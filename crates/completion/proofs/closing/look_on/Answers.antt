use Rattle.std.proofs.Common.{IfSome, List, Option, subst, sym, take}
use Rattle.crit_pairs.specs.Table.{HasPeaks, AreAllPairs}
use Rattle.crit_pairs.specs.declared.table.PeakPair.{PeakPair}
use Rattle.crit_pairs.specs.declared.table.PeakTable.{PeakTable}
use Rattle.crit_pairs.proofs.TableLaws.{has_still, no_peaks_yet}
use Rattle.completion.proofs.PairLaws.{bases_on, all_peaks_there}
use Rattle.completion.proofs.closing.look_on.Goals.{In-Some}
use Rattle.completion.proofs.closing.look_on.Goals as goal

-- the table that has grown
grown : (c : In-Some) → HasPeaks c.args.system.now.rules (take c.grow_table.new.self.base c.grow_table.new.self.pool) c.in-Some.known
grown c =
    let P : Option PeakTable → Type 0 = λ o. IfSome o (HasPeaks c.args.system.now.rules (take c.grow_table.new.self.base c.grow_table.new.self.pool)) in
    subst P c.in-Some.is c.in_ok-known.ensures.peaks

pub find_pair-requires-clause-pairs : goal.find_pair-requires-clause-pairs
find_pair-requires-clause-pairs c =
    let pool = take c.grow_table.new.self.base c.grow_table.new.self.pool in
    let P : List PeakPair → Type 0 = AreAllPairs c.args.system.now.rules pool in
    subst P (sym c.deref.ensures.value) (c.in_ok-pairs-in-Some.ensures c.args.system.now.rules pool (grown (goal.at.find_pair-requires-clause-pairs c).In-Some))

pub returns-in_ok-found-in-Some-clause-table : goal.returns-in_ok-found-in-Some-clause-table
returns-in_ok-found-in-Some-clause-table c =
    all_peaks_there c.args.system.now.rules _ c.in-Some.known
    (has_still c.args.system.now.rules _ _ c.in-Some.known (bases_on c.grow_table.new.self c.find_pair.new.met c.in_ok-found-in-Some.ensures.kept)
    (grown (goal.at.returns-in_ok-found-in-Some-clause-table c).In-Some))

pub returns-in_ok-found-in-None-clause-table : goal.returns-in_ok-found-in-None-clause-table
returns-in_ok-found-in-None-clause-table c = no_peaks_yet c.args.system.now.rules _ c.new-known.result c.new-known.ensures
