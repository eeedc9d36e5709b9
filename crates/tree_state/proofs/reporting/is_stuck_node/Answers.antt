use Rattle.std.proofs.Common.{◌&&◌, not, [], take, length, sym, ap, ◌∙◌}
use Rattle.tree_definitions.specs.cert_step.ProofProblem.{problem_of}
use Rattle.tree_definitions.specs.strategies.Kinds.{strategies_for}
use Rattle.tree_state.specs.Parts.{all_failed}
use Rattle.tree_state.specs.Seen.{node_of, decided_of}
use Rattle.tree_state.proofs.Failures.{is_none_map, not_some}
use Rattle.tree_state.proofs.reporting.is_stuck_node.Goals as goal

pub returns-then-is_none : goal.returns-then-is_none
returns-then-is_none c =
    c.has_failed.ensures [] ∙ sym (ap (λ b. b && all_failed (node_of [] c.args.node.now).marks)
    (is_none_map (decided_of []) c.args.node.now.decision ∙ sym (not_some c.args.node.now.decision) ∙ ap not (c.is_none.ensures ∙ ap not c.if-is_none.true)))

pub returns-else-is_none : goal.returns-else-is_none
returns-else-is_none c =
    c.if-is_none.false ∙ sym (ap (λ b. b && all_failed (node_of [] c.args.node.now).marks)
    (is_none_map (decided_of []) c.args.node.now.decision ∙ sym (not_some c.args.node.now.decision) ∙ ap not (c.is_none.ensures ∙ ap not c.if-is_none.false)))
