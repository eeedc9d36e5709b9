use Rattle.std.proofs.Common.{IfSome, Option, subst}
use Rattle.crit_pairs.specs.PooledPeaks.{ArePooled}
use Rattle.crit_pairs.specs.declared.pooled.PooledPeaks.{PooledPeaks}
use Rattle.closed_pairs.proofs.joined.newman_check.Goals as goal

pub pooled_peaks_are_joined-requires : goal.pooled_peaks_are_joined-requires
pooled_peaks_are_joined-requires c =
    let P : Option PooledPeaks → Type 0 = λ o. IfSome o (ArePooled c.args.trs.now.rules) in
    subst P c.in-Some.is c.in_ok-found.ensures
