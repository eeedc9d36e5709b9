use Rattle.std.proofs.Common.{◌≡◌, ℕ, sym, ◌∙◌, map, subst}
use Rattle.std.proofs.lemmas.List.Elements.{All-from_recursion}
use Rattle.tree_state.specs.cert_step.ProofStep.{ProofNodeStep, node_step_of, IsWellMade}
use Rattle.tree_state.proofs.cert_step.NodeSoundness.{true_claim}
use Rattle.tree_state.specs.tree_definitions.Reports.{AreStepsOf, IsFoundStep}
use Rattle.tree_core.proofs.Accepted.{ascending, goal_made, accepted, steps_well_made, steps_found, some_same}
use Rattle.tree_core.proofs.tree.Tree.certificate.Goals as goal

pub steps_of-requires-clause-root : goal.steps_of-requires-clause-root
steps_of-requires-clause-root c =
    let i = c.self.inside in
    (goal_made i.question i.system.now i.limits.budget i.board c.self.invariant c.in-Some.goal (sym c.winner.ensures ∙ c.in-Some.is)).1

pub steps_of-requires-clause-ascending : goal.steps_of-requires-clause-ascending
steps_of-requires-clause-ascending c =
    let i = c.self.inside in
    ascending i.question i.system.now i.limits.budget i.board c.self.invariant

pub claim_of-claim-requires : goal.claim_of-claim-requires
claim_of-claim-requires c =
    let i = c.self.inside in
    (goal_made i.question i.system.now i.limits.budget i.board c.self.invariant c.in-Some.goal (sym c.winner.ensures ∙ c.in-Some.is)).0

pub returns-clause-steps : goal.returns-clause-steps
returns-clause-steps c =
    let i = c.self.inside in
    let e = sym c.winner.ensures ∙ c.in-Some.is in
    let w = c.in_ok-steps.ensures in
    rw (← c.self.view_is) (λ g is.
    let same : c.in-Some.goal ≡ g = some_same c.in-Some.goal g (sym e ∙ is) in
    subst (λ (k : ℕ). AreStepsOf i.board.state.nodes k (map node_step_of c.in_ok-steps.steps.items)) same (record { order = w.0; walks = w.1; steps_are = w.2 }))

pub returns-clause-well_made : goal.returns-clause-well_made
returns-clause-well_made c =
    let i = c.self.inside in
    let w = c.in_ok-steps.ensures in
    let steps = map node_step_of c.in_ok-steps.steps.items in
    rw (← c.self.view_is) (All-from_recursion (λ (s : ProofNodeStep). IsWellMade i.system.now s.step) steps
    (steps_well_made i.question i.system.now i.limits.budget i.board c.self.invariant w.0 steps w.2))

pub returns-clause-found : goal.returns-clause-found
returns-clause-found c =
    let i = c.self.inside in
    let w = c.in_ok-steps.ensures in
    let steps = map node_step_of c.in_ok-steps.steps.items in
    rw (← c.self.view_is) (All-from_recursion (λ (s : ProofNodeStep). IsFoundStep i.system.now i.limits.budget s.step) steps
    (steps_found i.question i.system.now i.limits.budget i.board c.self.invariant w.0 steps w.2))

pub returns-clause-accepted : goal.returns-clause-accepted
returns-clause-accepted c =
    let i = c.self.inside in
    let e = sym c.winner.ensures ∙ c.in-Some.is in
    let w = c.in_ok-steps.ensures in
    rw (← c.self.view_is) (accepted i.question i.system.now i.limits.budget i.board c.self.invariant c.in-Some.goal e c.claim_of-claim.result c.claim_of-claim.ensures
    w.0 w.1 (map node_step_of c.in_ok-steps.steps.items) w.2)

pub returns-clause-true_claim : goal.returns-clause-true_claim
returns-clause-true_claim c =
    let i = c.self.inside in
    let e = sym c.winner.ensures ∙ c.in-Some.is in
    let w = c.in_ok-steps.ensures in
    let steps = map node_step_of c.in_ok-steps.steps.items in
    let is = accepted i.question i.system.now i.limits.budget i.board c.self.invariant c.in-Some.goal e c.claim_of-claim.result c.claim_of-claim.ensures w.0 w.1 steps w.2 in
    let made = steps_well_made i.question i.system.now i.limits.budget i.board c.self.invariant w.0 steps w.2 in
    rw (← c.self.view_is) (true_claim i.system.now c.claim_of-claim.result steps c.self.invariant.valid.is_system made is)
