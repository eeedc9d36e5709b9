use Rattle.std.proofs.Common.{ap}
use Rattle.trs_core.specs.View.{tree}
use Rattle.crit_pairs.specs.Overlapping.{substitution}
use Rattle.crit_pairs.proofs.SideInstances.{unshifted_large, unshifted_small}
use Rattle.crit_pairs.proofs.side_instances.small_instance.Goals as goal

pub returns-then-from-eq0-clause-large : goal.returns-then-from-eq0-clause-large
returns-then-from-eq0-clause-large c =
    unshifted_large (substitution c.args.unifier.now) _ c.args.from (tree c.args.side.now) (ap substitution c.in-Shared.is) c.if-from-eq0.true c.small_size.result c.small_size.ensures.large

pub returns-then-from-eq0-clause-small : goal.returns-then-from-eq0-clause-small
returns-then-from-eq0-clause-small c =
    unshifted_small (substitution c.args.unifier.now) _ c.args.from (tree c.args.side.now) (ap substitution c.in-Shared.is) c.if-from-eq0.true c.small_size.result c.small_size.ensures.small
    c.small_size.ensures.size
