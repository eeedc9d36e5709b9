use Rattle.tree_state.specs.tree_definitions.Questions.{goal_count}
use Rattle.tree_state.specs.tree_definitions.Trees.{ProofTree}
use Rattle.tree_state.specs.tree_definitions.Verdicts.{AllLost}
use Rattle.std.proofs.Common.{subst, sym}
use Rattle.tree_core.proofs.LostReports.{lost_report}
use Rattle.tree_core.proofs.laws.lost_goals_have_a_true_report.Goals as goal

pub returns : goal.returns
returns c =
    let i = c.tree.inside in
    let lost = subst (λ (t : ProofTree). AllLost (goal_count t.question) t.state.nodes) (sym c.tree.view_is) c.requires.1 in
    rw (← c.tree.view_is) (lost_report i.question i.system.now i.limits.budget i.board c.tree.invariant lost)
