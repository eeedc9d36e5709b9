use Rattle.std.proofs.Common.{◌≡◌, ◌<◌, ℕ, length, position, slice_get, Some, None, refl, sym, ap, ◌∙◌, subst}
use Rattle.std.proofs.lemmas.Option.{slice_get_read}
use Rattle.tree_state.specs.cert_step.ProofProblem.{problem_of}
use Rattle.tree_state.specs.strategies.Kinds.{strategies_for}
use Rattle.tree_state.specs.tree_definitions.Questions.{goal_count}
use Rattle.tree_state.specs.tree_definitions.States.{TreeNode}
use Rattle.tree_state.specs.tree_definitions.Trees.{ProofTree}
use Rattle.tree_state.specs.tree_definitions.Verdicts.{IsLost}
use Rattle.tree_state.specs.tree_definitions.Reports.{steps_from}
use Rattle.tree_state.specs.Stuck.{is_stuck_at, failures}
use Rattle.tree_core.proofs.Accepted.{ascending}
use Rattle.tree_core.proofs.GoalParts.{some_stuck, stuck_within, placed, reported}
use Rattle.tree_core.proofs.tree.Tree.goal_report.Goals as goal

pub walk-requires-clause-ascending : goal.walk-requires-clause-ascending
walk-requires-clause-ascending c =
    let i = c.self.inside in
    ascending i.question i.system.now i.limits.budget i.board c.self.invariant

pub unreachable-requires : goal.unreachable-requires
unreachable-requires c =
    let i = c.self.inside in
    let nodes = i.board.state.nodes in
    let order = c.in_ok-order.order.items in
    let low = subst (λ (t : ProofTree). c.args.goal < goal_count t.question) (sym c.self.view_is) c.requires.goal in
    let lost = subst (λ (t : ProofTree). IsLost t.state.nodes c.args.goal) (sym c.self.view_is) c.requires.lost in
    let is : position (is_stuck_at nodes) order ≡ None =
    sym (c.first_stuck.ensures ∙ ap (position (is_stuck_at nodes)) c.deref-2.ensures.value) ∙ c.in_default.is in
    some_stuck i.question i.system.now i.limits.budget i.board c.self.invariant c.args.goal low order c.in_ok-order.ensures lost is

pub problem-requires : goal.problem-requires
problem-requires c =
    let i = c.self.inside in
    let nodes = i.board.state.nodes in
    let order = c.in_ok-order.order.items in
    let n = c.index-n.result.now in
    let is : position (is_stuck_at nodes) order ≡ Some c.in-Some.place =
    sym (c.first_stuck.ensures ∙ ap (position (is_stuck_at nodes)) c.deref-2.ensures.value) ∙ c.in-Some.is in
    let at = placed nodes order c.in-Some.place n is (λ lt. slice_get_read order (length order) c.in-Some.place n (λ i. length order) lt c.index-n.ensures) in
    subst (λ (k : ℕ). k < length nodes) at.is (stuck_within nodes at.first.x at.first.passes)

pub failures-requires : goal.failures-requires
failures-requires c =
    let i = c.self.inside in
    let nodes = i.board.state.nodes in
    let order = c.in_ok-order.order.items in
    let n = c.index-n.result.now in
    let is : position (is_stuck_at nodes) order ≡ Some c.in-Some.place =
    sym (c.first_stuck.ensures ∙ ap (position (is_stuck_at nodes)) c.deref-2.ensures.value) ∙ c.in-Some.is in
    let at = placed nodes order c.in-Some.place n is (λ lt. slice_get_read order (length order) c.in-Some.place n (λ i. length order) lt c.index-n.ensures) in
    subst (λ (k : ℕ). k < length nodes) at.is (stuck_within nodes at.first.x at.first.passes)

pub returns : goal.returns
returns c =
    let i = c.self.inside in
    let nodes = i.board.state.nodes in
    let order = c.in_ok-order.order.items in
    let n = c.index-n.result.now in
    let is : position (is_stuck_at nodes) order ≡ Some c.in-Some.place =
    sym (c.first_stuck.ensures ∙ ap (position (is_stuck_at nodes)) c.deref-2.ensures.value) ∙ c.in-Some.is in
    let at = placed nodes order c.in-Some.place n is (λ lt. slice_get_read order (length order) c.in-Some.place n (λ i. length order) lt c.index-n.ensures) in
    let low = subst (λ (t : ProofTree). c.args.goal < goal_count t.question) (sym c.self.view_is) c.requires.goal in
    let steps = c.in_ok-steps.ensures ∙ ap (steps_from nodes 0) c.deref.ensures.value in
    let problem = subst (λ (k : ℕ). (node : TreeNode) → slice_get nodes k ≡ Some node → problem_of c.in_ok-problem.problem ≡ node.problem) (sym at.is) c.in_ok-problem.ensures in
    let failed = subst (λ (k : ℕ). (node : TreeNode) → slice_get nodes k ≡ Some node → c.in_ok-failed.failed.items ≡ failures (strategies_for node.problem) node.marks) (sym at.is) c.in_ok-failed.ensures in
    rw (← c.self.view_is) (reported i.question i.system.now i.limits.budget i.board c.self.invariant c.args.goal low order c.in_ok-order.ensures
    (record { goal = c.args.goal; steps = c.in_ok-steps.steps; node = c.in-Some.place; problem = c.in_ok-problem.problem; failed = c.in_ok-failed.failed }) refl steps at.first problem failed)
