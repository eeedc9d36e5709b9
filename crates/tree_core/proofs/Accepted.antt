-- The steps of the goal that was won are accepted for its claim.
use Rattle.std.proofs.Common.{◌≡◌, ◌<◌, ℕ, ◌+◌, List, [], ◌∷◌, length, Option, Some, None, slice_get, refl, sym, ap, ◌∙◌, subst}
use Rattle.std.specs.List.{AllByRecursion}
use Rattle.std.proofs.lemmas.Option.{slice_get_within}
use Rattle.trs_defs.specs.System.{System}
use Rattle.tree_state.specs.cert_step.PlainProblem.{plain}
use Rattle.tree_state.specs.cert_step.ProofStep.{ProofStep, ProofNodeStep, IsWellMade}
use Rattle.tree_state.specs.cert_step.Nodes.{IsAccepted}
use Rattle.tree_state.specs.cert_step.declared.claim.Claim.{Claim}
use Rattle.tree_state.proofs.cert_step.AnyWay.{applies_plainly}
use Rattle.tree_state.specs.tree_definitions.declared.question.Question.{Question}
use Rattle.tree_state.specs.tree_definitions.Questions.{claims, goal_count}
use Rattle.tree_state.specs.tree_definitions.States.{TreeNode, Decided}
use Rattle.tree_state.specs.tree_definitions.Reports.{Walks, steps_from, with_step, decision_at, IsFoundStep}
use Rattle.tree_state.specs.Ascending.{AreAscending}
use Rattle.tree_state.specs.Parts.{Parts}
use Rattle.tree_core.specs.Invariant.{IsTree}
use Rattle.tree_state.proofs.tree_definitions.Roots.{root_below, claims_fit}
use Rattle.tree_core.proofs.Walks.{won_accepted}

pub some_same : (a b : ℕ) → Some a ≡ Some b → a ≡ b
some_same a b e = cc

module _ (question : Question) (system : System) (budget : ℕ) (p : Parts) (tree : IsTree question system budget p) where
  pub ascending : AreAscending p.state.nodes
  ascending n node d there dec c child =
      let a = tree.shaped.later n node d there dec c child in
      (a.0, slice_get_within p.state.nodes c a.1.node a.1.there)

  pub goal_made : (g : ℕ) → p.state.winner ≡ Some g → (g < goal_count question) × (g < length p.state.nodes)
  goal_made g e =
      let w = tree.counted.winner g e in
      let r = tree.shaped.root g w.0 in
      (w.0, slice_get_within p.state.nodes g r.node r.there)

  pub accepted : (g : ℕ) → p.state.winner ≡ Some g → (claim : Claim) → slice_get (claims question) g ≡ Some claim → (order : List ℕ) → Walks p.state.nodes (g ∷ []) order
      → (steps : List ProofNodeStep) → steps ≡ steps_from p.state.nodes 0 order → IsAccepted system claim steps
  accepted g e claim is order w steps same =
      let won = tree.counted.winner g e in
      let q = root_below question g won.0 in
      let r = tree.rooted g q.0 q.1 in
      let fits = ap plain r.problem_is ∙ claims_fit question g q.0 claim q.1 is in
      subst (IsAccepted system claim) (sym same) (won_accepted system p.state.nodes (applies_plainly system) (λ n node d there dec.
      let l = tree.legal.decided n node d there dec in
      (l.left, l.applies, l.count, l.children)) g r.node r.there claim fits won.1 order w)

  -- what is true of each decision is true of the steps
  module _ (P : ProofStep → Type 0) (each : (n : ℕ) (node : TreeNode) (d : Decided) → slice_get p.state.nodes n ≡ Some node → node.decision ≡ Some d → P d.step) where
    step_is : (i n : ℕ) (d : Option Decided) (rest : List ProofNodeStep) → decision_at (slice_get p.state.nodes n) ≡ d → AllByRecursion (λ (s : ProofNodeStep). P s.step) rest
        → AllByRecursion (λ (s : ProofNodeStep). P s.step) (with_step i d rest)
    step_is i n None rest e are = are
    step_is i n (Some d) rest e are = (of_node (slice_get p.state.nodes n) refl e, are)
      where
        of_node : (o : Option TreeNode) → slice_get p.state.nodes n ≡ o → decision_at o ≡ Some d → P d.step
        of_node None there dec = absurd cc
        of_node (Some node) there dec = each n node d there dec

    each_from : (i : ℕ) (order : List ℕ) → AllByRecursion (λ (s : ProofNodeStep). P s.step) (steps_from p.state.nodes i order)
    each_from i [] = tt
    each_from i (n ∷ order) = step_is i n (decision_at (slice_get p.state.nodes n)) (steps_from p.state.nodes (i + 1) order) refl (each_from (i + 1) order)

    each_step : (order : List ℕ) (steps : List ProofNodeStep) → steps ≡ steps_from p.state.nodes 0 order → AllByRecursion (λ (s : ProofNodeStep). P s.step) steps
    each_step order steps same = subst (λ (ss : List ProofNodeStep). AllByRecursion (λ (s : ProofNodeStep). P s.step) ss) (sym same) (each_from 0 order)

  -- the steps are well-made
  pub steps_well_made : (order : List ℕ) (steps : List ProofNodeStep) → steps ≡ steps_from p.state.nodes 0 order → AllByRecursion (λ (s : ProofNodeStep). IsWellMade system s.step) steps
  steps_well_made order steps same = each_step (λ s. IsWellMade system s) (λ n node d there dec. (tree.legal.decided n node d there dec).well_made) order steps same

  -- they are found
  pub steps_found : (order : List ℕ) (steps : List ProofNodeStep) → steps ≡ steps_from p.state.nodes 0 order → AllByRecursion (λ (s : ProofNodeStep). IsFoundStep system budget s.step) steps
  steps_found order steps same = each_step (λ s. IsFoundStep system budget s) found_at order steps same
    where
      found_at : (n : ℕ) (node : TreeNode) (d : Decided) → slice_get p.state.nodes n ≡ Some node → node.decision ≡ Some d → IsFoundStep system budget d.step
      found_at n node d there dec =
          let l = tree.legal.decided n node d there dec in
          record { problem = node.problem; strategy = l.strategy; well_made = tree.well_made n node there; kind = l.kind; finds = l.finds }

  pub goal_within : (g : ℕ) → g < goal_count question → g < length p.state.nodes
  goal_within g low = let r = tree.shaped.root g low in slice_get_within p.state.nodes g r.node r.there
