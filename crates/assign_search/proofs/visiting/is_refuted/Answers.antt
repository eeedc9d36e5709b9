use Rattle.assign_search.proofs.Reaching.{group_numbers, group_covered, group_refutes}
use Rattle.assign_search.proofs.visiting.is_refuted.Goals as goal

pub all_hold-requires-clause-constraints : goal.all_hold-requires-clause-constraints
all_hold-requires-clause-constraints g c = group_numbers (g.S.Space.puzzle c.args.space.now) c.args.values.now c.args.group.now c.requires.group

pub all_hold-requires-clause-covers : goal.all_hold-requires-clause-covers
all_hold-requires-clause-covers g c = group_covered (g.S.Space.puzzle c.args.space.now) c.args.values.now c.args.group.now c.requires.standing c.requires.group

pub returns-clause-refuted : goal.returns-clause-refuted
returns-clause-refuted g c =
    group_refutes (g.S.Space.puzzle c.args.space.now) (g.met.S.Space.lawful c.args.space.now) c.args.values.now c.args.group.now c.requires.standing c.requires.group
    c.in_ok-stands.stands c.in_ok-stands.ensures.truth
