use Rattle.std.proofs.Common.{◌∙◌}
use Rattle.cert_step.specs.OnPairs.{problem_if_any}
use Rattle.cert_step.proofs.Leaving.{leaving_by}
use Rattle.cert_step.proofs.usable_step.apply_usable.Goals as goal

pub returns-clause-answers : goal.returns-clause-answers
returns-clause-answers c =
    leaving_by _ (λ left. left.items) problem_if_any c.prepared_usable_check-left.result c.remaining.result (rw (c.get.ensures ∙ c.in_ok-pairs.ensures.pairs) at c.prepared_usable_check-left.ensures.answers) c.remaining.ensures
