use Rattle.std.proofs.Common.{◌≡◌, [], subst}
use Rattle.std.specs.Prelude.{IfOk}
use Rattle.tree_definitions.specs.cert_step.ProofProblem.{problem_of}
use Rattle.tree_definitions.specs.strategies.Kinds.{strategies_for}
use Rattle.tree_state.specs.Stuck.{failures}
use Rattle.tree_state.proofs.reporting.node_failures.Goals as goal

pub returns : goal.returns
returns c =
    let of_strategies = subst (λ ss. IfOk c.mark_failures.result (λ failed. failed.items ≡ failures ss c.marks_of.result.now)) c.strategies_of.ensures c.mark_failures.ensures in
    subst (λ ms. IfOk c.mark_failures.result (λ failed. failed.items ≡ failures (strategies_for (problem_of c.args.node.now.problem)) ms)) (c.marks_of.ensures.marks []) of_strategies
