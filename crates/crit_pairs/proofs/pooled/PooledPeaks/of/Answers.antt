use Rattle.std.proofs.Common.{List, subst, sym}
use Rattle.trs_defs.specs.System.{RewriteRule}
use Rattle.trs_core.specs.SystemLimits.{HaveSmallVariables}
use Rattle.crit_pairs.proofs.SpotWalk.{narrow_sides}
use Rattle.crit_pairs.proofs.TableLaws.{no_peaks_yet}
use Rattle.crit_pairs.proofs.PooledLaws.{table_there, pooled}
use Rattle.crit_pairs.proofs.pooled.PooledPeaks.of.Goals as goal

pub grow_within-requires-clause-small : goal.grow_within-requires-clause-small
grow_within-requires-clause-small c =
    let V : List RewriteRule → Type 0 = HaveSmallVariables in
    subst V (sym c.rules-rules.ensures.rules) c.rules-rules.ensures.variables

pub grow_within-requires-clause-narrow : goal.grow_within-requires-clause-narrow
grow_within-requires-clause-narrow c =
    narrow_sides c.args.trs.now c.rules-rules.result.now c.rules-rules.ensures.rules c.rules-rules.ensures.valid c.systems_are_valid.ensures.bytes

pub grow_within-requires-clause-first : goal.grow_within-requires-clause-first
grow_within-requires-clause-first c = no_peaks_yet c.rules-rules.result.now _ c.new-empty.result c.new-empty.ensures

pub returns : goal.returns
returns c =
    let rules = c.args.trs.now.rules in
    pooled rules _
    (c.in_ok-pairs.ensures rules c.grow_within.new.pool
    (table_there c.in_ok-grown.grown c.in-Some.table c.rules-rules.result.now rules c.grow_within.new.pool c.in-Some.is c.rules-rules.ensures.rules c.in_ok-grown.ensures.peaks))
    c.len-base.ensures.len
