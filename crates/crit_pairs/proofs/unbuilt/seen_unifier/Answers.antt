use Rattle.std.proofs.Common.{ap, ◌∙◌, map}
use Rattle.crit_pairs.specs.UnbuiltTop.{bound_pair}
use Rattle.crit_pairs.proofs.SeenUnifiers.{seen_solution}
use Rattle.crit_pairs.proofs.unbuilt.seen_unifier.Goals as goal

pub returns-in_ok-seen-in-Bound : goal.returns-in_ok-seen-in-Bound
returns-in_ok-seen-in-Bound c = λ v. rw c.in-Bound.is
    (seen_solution c.in-Bound.bindings.levels c.in_ok-seen-in-Bound.seen.items c.in-Bound.bindings.list.items (c.in_ok-seen-in-Bound.ensures ∙ ap (map bound_pair) c.deref.ensures.value) v)
