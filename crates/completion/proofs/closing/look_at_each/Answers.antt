use Rattle.std.proofs.Common.{◌≡◌, List, Err, map, subst, sym}
use Rattle.trs_defs.specs.System.{System}
use Rattle.rewrite_core.specs.PlacedPeak.{PlacedPeak}
use Rattle.crit_pairs.specs.PeakList.{ListsPeaks}
use Rattle.crit_pairs.specs.declared.faults.PeakFault.{PeakFault}
use Rattle.crit_pairs.specs.declared.faults.PeakFault.TheVariants as fault
use Rattle.completion.specs.GreaterBy.{GreaterBy}
use Rattle.completion.specs.CompletionRun.{Finds, Ended, sides}
use Rattle.completion.specs.Endings.{Limit}
use Rattle.completion.specs.Treating.{IsOutcome}
use Rattle.completion.specs.Taking.{ArePairsOver, Looks, past_limit}
use Rattle.completion.proofs.Looking.{all_pairs, all_looked_at}
use Rattle.completion.proofs.closing.look_at_each.Goals as goal

pub find-requires-clause-pairs : goal.find-requires-clause-pairs
find-requires-clause-pairs c =
    let P : List PlacedPeak → Type 0 = λ ps. ArePairsOver c.args.system.now.arities (map sides ps) in
    let S : System → Type 0 = λ s. ArePairsOver s.arities (map sides c.in-Ok.peaks.items) in
    subst P (sym c.deref.ensures.value) (subst S c.requires.same (all_pairs c.args.trs.now c.systems_are_valid.ensures.valid c.in-Ok.peaks.items c.in-Ok.ensures.peaks))

pub returns-in_ok-found-in-Ok-clause-looks : goal.returns-in_ok-found-in-Ok-clause-looks
returns-in_ok-found-in-Ok-clause-looks c =
    let found = c.in_ok-found-in-Ok.found in
    let F : List PlacedPeak → Type 0 = λ ps. IsOutcome (Finds c.args.trs.now.arities (GreaterBy c.args.order.now) c.args.trs.now.rules c.args.units (map sides ps)) found in
    let S : System → Type 0 = λ s. IsOutcome (Finds s.arities (GreaterBy c.args.order.now) s.rules c.args.units (map sides c.deref.result.now)) found in
    let L : System → Type 0 = λ s. IsOutcome (Looks s.arities (GreaterBy c.args.order.now) s.rules c.args.units) found in
    subst L c.requires.same
    (all_looked_at (GreaterBy c.args.order.now) c.args.trs.now c.args.units c.in-Ok.peaks.items c.in-Ok.ensures.peaks found
    (subst F c.deref.ensures.value (subst S (sym c.requires.same) c.in_ok-found-in-Ok.ensures.outcome)))

pub returns-in-Err-TooLarge-clause-looks : goal.returns-in-Err-TooLarge-clause-looks
returns-in-Err-TooLarge-clause-looks c =
    let L : System → Type 0 = λ s. Looks s.arities (GreaterBy c.args.order.now) s.rules c.args.units (Ended Limit) in
    let A : PeakFault → Type 0 = λ f. (f ≡ fault.OutOfMemory → ⊥) → ListsPeaks c.args.trs.now.rules (Err f) in
    subst L c.requires.same (past_limit fault.TooLarge (subst A c.in-Err-TooLarge.field-0-is c.in-Err-TooLarge.ensures.fault (λ e. absurd cc)))

pub returns-in-Err-TooMany-clause-looks : goal.returns-in-Err-TooMany-clause-looks
returns-in-Err-TooMany-clause-looks c =
    let L : System → Type 0 = λ s. Looks s.arities (GreaterBy c.args.order.now) s.rules c.args.units (Ended Limit) in
    let A : PeakFault → Type 0 = λ f. (f ≡ fault.OutOfMemory → ⊥) → ListsPeaks c.args.trs.now.rules (Err f) in
    subst L c.requires.same (past_limit fault.TooMany (subst A c.in-Err-TooMany.field-0-is c.in-Err-TooMany.ensures.fault (λ e. absurd cc)))
