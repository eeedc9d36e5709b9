use Rattle.std.proofs.Common.{arith}
use Rattle.trs_core.specs.View.{tree}
use Rattle.crit_pairs.specs.Overlapping.{substitution}
use Rattle.crit_pairs.proofs.CountedPeaks.{redex_smaller, reduct_counted}
use Rattle.crit_pairs.proofs.counting.three_sizes.Goals as goal

pub overflow_sub-reduct : goal.overflow_sub-reduct
overflow_sub-reduct c =
    redex_smaller (substitution c.args.unifier.now) c.args.place.now (tree c.args.left.now) (tree c.args.part.now) c.requires.there c.in_ok-whole.whole c.in_ok-redex.redex
    c.in_ok-whole.ensures.size c.in_ok-redex.ensures.size

pub returns : goal.returns
returns c = λ by right u small_by small_right is.
    reduct_counted (substitution c.args.unifier.now) c.args.place.now (tree c.args.left.now) (tree c.args.part.now) c.requires.there by right u
    c.in_ok-whole.whole c.args.other c.in_ok-redex.redex c.args.put is c.in_ok-whole.ensures.small small_right.0
    c.in_ok-whole.ensures.size small_right.1 c.in_ok-redex.ensures.size small_by.1
    (omega (arith, c.if-reduct-gt-MOST_NODES.false)) (omega (arith, c.if-depth-gt-GREATEST_DEPTH.false))
