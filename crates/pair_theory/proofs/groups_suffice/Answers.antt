use Rattle.pair_theory.proofs.Groups.{groups_theorem, cap_estimate_covers}
use Rattle.pair_theory.proofs.groups_suffice.Goals as goal

pub returns-clause-finite : goal.returns-clause-finite
returns-clause-finite c = λ system pairs edge ok good covers group groups grouped.
    groups_theorem system ok pairs good edge covers group groups grouped

pub returns-clause-estimate : goal.returns-clause-estimate
returns-clause-estimate c = cap_estimate_covers
