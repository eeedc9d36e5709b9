use Rattle.std.specs.Prelude.{[], ◌∷◌}
use Rattle.std.proofs.Common.{ap, ◌∙◌}
use Rattle.cert_step.specs.ProofProblem.{dp}
use Rattle.cert_step.proofs.Leaving.{returns_problems}
use Rattle.cert_step.proofs.dp_step.apply_dp.Goals as goal

pub returns : goal.returns
returns c = returns_problems _ c.in_ok-alone.field-0 (c.in_ok-alone.ensures ∙ ap (λ ns. dp ns ∷ []) c.in_ok-numbers.ensures)
