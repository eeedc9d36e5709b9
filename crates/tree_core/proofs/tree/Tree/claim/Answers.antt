use Rattle.std.proofs.Common.{◌≡◌, ◌<◌, ◌≤◌, ℕ, false, Option, Some, None, length, slice_get, refl, sym, ap, ◌∙◌, subst, arith}
use Rattle.std.specs.Option.{MatchOption}
use Rattle.std.proofs.lemmas.Option.{slice_get_within}
use Rattle.tree_state.specs.strategies.Kinds.{strategies_for}
use Rattle.tree_state.specs.cert_step.ProofProblem.{ProofProblem, problem_of}
use Rattle.tree_state.specs.tree_definitions.Questions.{goal_count}
use Rattle.tree_state.specs.tree_definitions.States.{TreeNode}
use Rattle.tree_state.specs.Parts.{Parts, free_place, is_done_by, claimed_parts}
use Rattle.tree_state.specs.tree_definitions.Replies.{IsAgain}
use Rattle.tree_core.specs.Invariant.{IsTree}
use Rattle.tree_core.proofs.Flags.{done_is}
use Rattle.tree_state.proofs.Idle.{open_at}
use Rattle.tree_core.proofs.Endings.{count_le}
use Rattle.tree_core.proofs.Claiming.{claim_tree}
use Rattle.tree_core.proofs.Tasks.{moved_tree, roomy_tree, is_again, is_task, is_runnable}
use Rattle.tree_core.proofs.Trees.{tree_of}
use Rattle.tree_core.proofs.tree.Tree.claim.Goals as goal

pub returns-then-is_done-clause-claim : goal.returns-then-is_done-clause-claim
returns-then-is_done-clause-claim c =
    let i = c.self.inside in
    rw (← c.self.view_is) (done_is (goal_count i.question) i.board c.self.invariant.counted (sym c.is_done.ensures ∙ c.if-is_done.true), refl)

pub invariant_of-self : goal.invariant_of-self
invariant_of-self c =
    let i = c.self.inside in
    let going : is_done_by i.board ≡ false = sym c.is_done.ensures ∙ c.if-is_done.false in
    let tree = c.self.invariant in
    let cursor = tree.counted.cursor in
    let moved : IsTree i.question i.system.now i.limits.budget (record i.board { cursor = c.find-n.result.0 }) =
    moved_tree i.question i.system.now i.limits.budget i.board tree going c.find-n.result.0 (c.find-n.ensures.within cursor) c.find-n.ensures.passed in
    rw c.find-n.ensures.parts moved

pub returns-in-None-clause-claim : goal.returns-in-None-clause-claim
returns-in-None-clause-claim c =
    let i = c.self.inside in
    let going : is_done_by i.board ≡ false = sym c.is_done.ensures ∙ c.if-is_done.false in
    let tree = c.self.invariant in
    let cursor = tree.counted.cursor in
    let moved : IsTree i.question i.system.now i.limits.budget (record i.board { cursor = c.find-n.result.0 }) =
    moved_tree i.question i.system.now i.limits.budget i.board tree going c.find-n.result.0 (c.find-n.ensures.within cursor) c.find-n.ensures.passed in
    let none = subst (λ (o : Option ℕ). MatchOption o (length i.board.state.nodes ≤ c.find-n.result.0)
    (λ place. (node : TreeNode) × (slice_get i.board.state.nodes c.find-n.result.0 ≡ Some node) × (free_place i.board.goals node ≡ Some place))) c.in-None.is c.find-n.ensures.found in
    let all : (k : ℕ) (x : TreeNode) → slice_get i.board.state.nodes k ≡ Some x → free_place (record i.board { cursor = c.find-n.result.0 }).goals x ≡ None = λ k x there.
    moved.counted.passed going k x (let lt = slice_get_within i.board.state.nodes k x there in omega (arith, lt, none)) there in
    let again = is_again i.question i.system.now i.limits.budget (record i.board { cursor = c.find-n.result.0 }) moved going all in
    (subst IsAgain c.self.view_is again, ap (λ (x : Parts). tree_of i.question i.system.now i.limits.budget x) c.find-n.ensures.parts ∙ c.self.view_is)

pub invariant_of-self-in_err-problem : goal.invariant_of-self-in_err-problem
invariant_of-self-in_err-problem c =
    let i = c.self.inside in
    let going : is_done_by i.board ≡ false = sym c.is_done.ensures ∙ c.if-is_done.false in
    let tree = c.self.invariant in
    let cursor = tree.counted.cursor in
    let moved : IsTree i.question i.system.now i.limits.budget (record i.board { cursor = c.find-n.result.0 }) =
    moved_tree i.question i.system.now i.limits.budget i.board tree going c.find-n.result.0 (c.find-n.ensures.within cursor) c.find-n.ensures.passed in
    rw c.find-n.ensures.parts moved

pub invariant_of-self-in_err-given : goal.invariant_of-self-in_err-given
invariant_of-self-in_err-given c =
    let i = c.self.inside in
    let going : is_done_by i.board ≡ false = sym c.is_done.ensures ∙ c.if-is_done.false in
    let tree = c.self.invariant in
    let cursor = tree.counted.cursor in
    let moved : IsTree i.question i.system.now i.limits.budget (record i.board { cursor = c.find-n.result.0 }) =
    moved_tree i.question i.system.now i.limits.budget i.board tree going c.find-n.result.0 (c.find-n.ensures.within cursor) c.find-n.ensures.passed in
    rw c.find-n.ensures.parts moved

pub claim-requires-clause-node : goal.claim-requires-clause-node
claim-requires-clause-node c =
    let i = c.self.inside in
    let going : is_done_by i.board ≡ false = sym c.is_done.ensures ∙ c.if-is_done.false in
    let tree = c.self.invariant in
    let cursor = tree.counted.cursor in
    let moved : IsTree i.question i.system.now i.limits.budget (record i.board { cursor = c.find-n.result.0 }) =
    moved_tree i.question i.system.now i.limits.budget i.board tree going c.find-n.result.0 (c.find-n.ensures.within cursor) c.find-n.ensures.passed in
    let found = subst (λ (o : Option ℕ). MatchOption o (length i.board.state.nodes ≤ c.find-n.result.0)
    (λ place. (node : TreeNode) × (slice_get i.board.state.nodes c.find-n.result.0 ≡ Some node) × (free_place i.board.goals node ≡ Some place))) c.in-Some.is c.find-n.ensures.found in
    let at = open_at i.board.goals found.0 c.in-Some.place found.2 in
    rw c.find-n.ensures.parts (found.0, found.1, slice_get_within found.0.marks c.in-Some.place at.first.x at.first.there)

pub claim-requires-clause-few : goal.claim-requires-clause-few
claim-requires-clause-few c =
    let i = c.self.inside in
    rw c.find-n.ensures.parts (omega (arith, c.self.invariant.counted.running, count_le i.board.state.tickets))

pub invariant_of-self-in_err-ticket : goal.invariant_of-self-in_err-ticket
invariant_of-self-in_err-ticket c =
    let i = c.self.inside in
    let going : is_done_by i.board ≡ false = sym c.is_done.ensures ∙ c.if-is_done.false in
    let tree = c.self.invariant in
    let cursor = tree.counted.cursor in
    let moved : IsTree i.question i.system.now i.limits.budget (record i.board { cursor = c.find-n.result.0 }) =
    moved_tree i.question i.system.now i.limits.budget i.board tree going c.find-n.result.0 (c.find-n.ensures.within cursor) c.find-n.ensures.passed in
    let moved_new = subst (λ (x : Parts). IsTree i.question i.system.now i.limits.budget x) (sym c.find-n.ensures.parts) moved in
    rw (c.in_err-ticket.ensures.err) (roomy_tree i.question i.system.now i.limits.budget c.find-n.new.self moved_new c.claim.new.self.room (c.in_err-ticket.ensures.err_room))

pub invariant_of-self-2 : goal.invariant_of-self-2
invariant_of-self-2 c =
    let i = c.self.inside in
    let going : is_done_by i.board ≡ false = sym c.is_done.ensures ∙ c.if-is_done.false in
    let tree = c.self.invariant in
    let cursor = tree.counted.cursor in
    let moved : IsTree i.question i.system.now i.limits.budget (record i.board { cursor = c.find-n.result.0 }) =
    moved_tree i.question i.system.now i.limits.budget i.board tree going c.find-n.result.0 (c.find-n.ensures.within cursor) c.find-n.ensures.passed in
    let found = subst (λ (o : Option ℕ). MatchOption o (length i.board.state.nodes ≤ c.find-n.result.0)
    (λ place. (node : TreeNode) × (slice_get i.board.state.nodes c.find-n.result.0 ≡ Some node) × (free_place i.board.goals node ≡ Some place))) c.in-Some.is c.find-n.ensures.found in
    let board : Parts = record i.board { cursor = c.find-n.result.0 } in
    let parts = subst (λ (x : Parts). (node : TreeNode) → slice_get x.state.nodes c.find-n.result.0 ≡ Some node
    → c.claim.new.self ≡ record (claimed_parts x c.args.seat c.find-n.result.0 c.in-Some.place (problem_of c.in_ok-given.given) c.in_ok-problem.strategy node) { room = c.claim.new.self.room }) c.find-n.ensures.parts c.in_ok-ticket.ensures.parts in
    let room = subst (λ (x : Parts). x.running < c.claim.new.self.room) c.find-n.ensures.parts c.in_ok-ticket.ensures.room in
    let task = subst (λ (x : Parts). (node : TreeNode) → slice_get x.state.nodes c.find-n.result.0 ≡ Some node
    → (problem_of c.in_ok-problem.problem ≡ node.problem) × (slice_get (strategies_for node.problem) c.in-Some.place ≡ Some c.in_ok-problem.strategy))
    c.find-n.ensures.parts c.in_ok-problem.ensures in
    let t = task found.0 found.1 in
    let made = subst (λ (x : ProofProblem). c.claim.new.self ≡ record (claimed_parts board c.args.seat c.find-n.result.0 c.in-Some.place x c.in_ok-problem.strategy found.0) { room = c.claim.new.self.room })
    c.in_ok-given.ensures (parts found.0 found.1) in
    rw made (claim_tree i.question i.system.now i.limits.budget board moved going c.find-n.result.0 c.in-Some.place found.0 found.1 found.2
    (omega arith) (λ k x le lt t. absurd (omega (arith, le, lt))) c.args.seat c.claim.new.self.room (problem_of c.in_ok-problem.problem) c.in_ok-problem.strategy (sym t.0) t.1 room)

pub returns-clause-claim : goal.returns-clause-claim
returns-clause-claim c =
    let i = c.self.inside in
    let going : is_done_by i.board ≡ false = sym c.is_done.ensures ∙ c.if-is_done.false in
    let tree = c.self.invariant in
    let cursor = tree.counted.cursor in
    let moved : IsTree i.question i.system.now i.limits.budget (record i.board { cursor = c.find-n.result.0 }) =
    moved_tree i.question i.system.now i.limits.budget i.board tree going c.find-n.result.0 (c.find-n.ensures.within cursor) c.find-n.ensures.passed in
    let found = subst (λ (o : Option ℕ). MatchOption o (length i.board.state.nodes ≤ c.find-n.result.0)
    (λ place. (node : TreeNode) × (slice_get i.board.state.nodes c.find-n.result.0 ≡ Some node) × (free_place i.board.goals node ≡ Some place))) c.in-Some.is c.find-n.ensures.found in
    let board : Parts = record i.board { cursor = c.find-n.result.0 } in
    let parts = subst (λ (x : Parts). (node : TreeNode) → slice_get x.state.nodes c.find-n.result.0 ≡ Some node
    → c.claim.new.self ≡ record (claimed_parts x c.args.seat c.find-n.result.0 c.in-Some.place (problem_of c.in_ok-given.given) c.in_ok-problem.strategy node) { room = c.claim.new.self.room }) c.find-n.ensures.parts c.in_ok-ticket.ensures.parts in
    let ticket = subst (λ (x : Parts). c.in_ok-ticket.ticket ≡ length x.state.tickets) c.find-n.ensures.parts c.in_ok-ticket.ensures.ticket in
    let task = subst (λ (x : Parts). (node : TreeNode) → slice_get x.state.nodes c.find-n.result.0 ≡ Some node
    → (problem_of c.in_ok-problem.problem ≡ node.problem) × (slice_get (strategies_for node.problem) c.in-Some.place ≡ Some c.in_ok-problem.strategy))
    c.find-n.ensures.parts c.in_ok-problem.ensures in
    let t = task found.0 found.1 in
    let made = subst (λ (x : ProofProblem). c.claim.new.self ≡ record (claimed_parts board c.args.seat c.find-n.result.0 c.in-Some.place x c.in_ok-problem.strategy found.0) { room = c.claim.new.self.room })
    c.in_ok-given.ensures (parts found.0 found.1) in
    is_task i.question i.system.now i.limits.budget board moved going c.find-n.result.0 c.in-Some.place found.0 found.1 found.2
    (omega arith) (λ k x le lt h. absurd (omega (arith, le, lt))) c.args.seat c.claim.new.self c.claim.new.self.room c.in_ok-ticket.ticket c.in_ok-problem.problem c.in_ok-problem.strategy
    c.args.self.now c.self.view_is made ticket (sym t.0) t.1

pub returns-clause-runnable : goal.returns-clause-runnable
returns-clause-runnable c =
    let i = c.self.inside in
    let found = subst (λ (o : Option ℕ). MatchOption o (length i.board.state.nodes ≤ c.find-n.result.0)
    (λ place. (node : TreeNode) × (slice_get i.board.state.nodes c.find-n.result.0 ≡ Some node) × (free_place i.board.goals node ≡ Some place))) c.in-Some.is c.find-n.ensures.found in
    let task = subst (λ (x : Parts). (node : TreeNode) → slice_get x.state.nodes c.find-n.result.0 ≡ Some node
    → (problem_of c.in_ok-problem.problem ≡ node.problem) × (slice_get (strategies_for node.problem) c.in-Some.place ≡ Some c.in_ok-problem.strategy))
    c.find-n.ensures.parts c.in_ok-problem.ensures in
    let t = task found.0 found.1 in
    is_runnable i.question i.system.now i.limits.budget i.board c.self.invariant c.find-n.result.0 found.0 found.1 c.in_ok-ticket.ticket c.in-Some.place c.in_ok-problem.problem
    c.in_ok-problem.strategy c.args.self.now c.self.view_is (sym t.0) t.1
