use Rattle.std.proofs.Common.{List, map, refl, subst, sym}
use Rattle.trs_defs.specs.System.{System}
use Rattle.rewrite_core.specs.Check.{Refuses}
use Rattle.rewrite_core.specs.PlacedPeak.{PlacedPeak}
use Rattle.rewrite_core.specs.declared.checks.refusals.CheckFault.{CheckFault}
use Rattle.crit_pairs.specs.PeaksCheck.{ListsCriticalPeaks}
use Rattle.completion.specs.GreaterBy.{GreaterBy}
use Rattle.completion.specs.CompletionRun.{Finds, Ended, sides}
use Rattle.completion.specs.Endings.{Limit}
use Rattle.completion.specs.Treating.{IsOutcome}
use Rattle.completion.specs.Taking.{ArePairsOver, Looks}
use Rattle.completion.proofs.Looking.{few_pairs, few_looked_at, refused_there}
use Rattle.completion.proofs.MetLaws.{base_itself}
use Rattle.completion.proofs.closing.look_at_listed.Goals as goal

pub find-requires-clause-pairs : goal.find-requires-clause-pairs
find-requires-clause-pairs c =
    let P : List PlacedPeak → Type 0 = λ ps. ArePairsOver c.args.system.now.arities (map sides ps) in
    let S : System → Type 0 = λ s. ArePairsOver s.arities (map sides c.in-Ok.few.peaks.items) in
    subst P (sym c.deref.ensures.value) (subst S c.requires.same (few_pairs c.args.trs.now c.systems_are_valid.ensures.valid c.args.most c.in-Ok.few c.in-Ok.ensures.first))

pub returns-then-is_settled-clause-looks : goal.returns-then-is_settled-clause-looks
returns-then-is_settled-clause-looks c =
    let found = c.in_ok-found-in-Ok.found in
    let F : List PlacedPeak → Type 0 = λ ps. IsOutcome (Finds c.args.trs.now.arities (GreaterBy c.args.order.now) c.args.trs.now.rules c.args.units (map sides ps)) found in
    let S : System → Type 0 = λ s. IsOutcome (Finds s.arities (GreaterBy c.args.order.now) s.rules c.args.units (map sides c.deref.result.now)) found in
    let L : System → Type 0 = λ s. IsOutcome (Looks s.arities (GreaterBy c.args.order.now) s.rules c.args.units) found in
    subst L c.requires.same
    (few_looked_at (GreaterBy c.args.order.now) c.args.trs.now c.args.units c.args.most c.in-Ok.few c.in-Ok.ensures.first found (c.if-is_settled.ensures refl)
    (subst F c.deref.ensures.value (subst S (sym c.requires.same) c.in_ok-found-in-Ok.ensures.outcome)))

pub returns-in-Err-Refused-clause-looks : goal.returns-in-Err-Refused-clause-looks
returns-in-Err-Refused-clause-looks c =
    let R : CheckFault → Type 0 = Refuses (ListsCriticalPeaks c.args.trs.now.rules) in
    let L : System → Type 0 = λ s. Looks s.arities (GreaterBy c.args.order.now) s.rules c.args.units (Ended Limit) in
    subst L c.requires.same
    (refused_there c.args.trs.now.arities (GreaterBy c.args.order.now) c.args.trs.now.rules c.args.units c.in-Err-Refused.field-0-0
    (subst R c.in-Err-Refused.field-0-is c.in-Err-Refused.ensures.refused))

pub returns-in-Err-Refused-clause-kept : goal.returns-in-Err-Refused-clause-kept
returns-in-Err-Refused-clause-kept c = base_itself c.args.met.now
