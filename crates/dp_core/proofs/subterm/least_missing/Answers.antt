use Rattle.dp_core.specs.SubtermConditions.{roots_of}
use Rattle.std.proofs.Common.{take, ◌∷◌, ◌+◌, subst}
use Rattle.pair_theory.specs.DependencyPair.{DependencyPair}
use Rattle.dp_core.specs.LeastMissing.{IsLeastMissing}
use Rattle.dp_core.proofs.NumberedPairs.{pair_at}
use Rattle.dp_core.proofs.Missing.{same_missing, one_pair_to, one_pair_back}
use Rattle.dp_core.proofs.subterm.least_missing.Goals as goal

pub loop-n-preserved : goal.loop-n-preserved
loop-n-preserved c = λ taken are.
    let p = c.index-pairs-n.result in
    let i = c.loop-n.n-index in
    let there = pair_at c.args.pairs.now c.args.problem.now taken i p c.requires are c.loop-n-test.true c.index-pairs-n.is in
    same_missing c.args.projection.now (p.to.symbol ∷ p.from.symbol ∷ roots_of (take i taken)) (roots_of (take (i + 1) taken)) _
    (one_pair_to taken i p there) (one_pair_back taken i p there)
    (subst (λ (q : DependencyPair). IsLeastMissing c.args.projection.now (q.to.symbol ∷ q.from.symbol ∷ roots_of (take i taken)) c.with_side-least-in-loop-n.result) c.sides.view_is
    (c.with_side-least-in-loop-n.ensures _ (c.with_side-least.ensures _ (c.loop-n.invariant taken are))))
