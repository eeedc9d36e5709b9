-- What is reported of a goal of a tree.
use Rattle.std.specs.Prelude.{◌≡◌, ℕ, Some, All, slice_get}
use Rattle.tree_state.specs.cert_step.ProofProblem.{ProofProblem}
use Rattle.tree_state.specs.cert_step.ProofStep.{IsWellMade}
use Rattle.tree_state.specs.tree_definitions.Questions.{roots}
use Rattle.tree_state.specs.tree_definitions.Trees.{ProofTree}
use Rattle.tree_state.specs.tree_definitions.Reports.{Part, IsPartOf, IsTruePart}

-- the part is the goal's, its steps are well-made, and it is true
pub record IsReported (tree : ProofTree) (g : ℕ) (part : Part) : Type 0 where
  pub of_tree : IsPartOf tree.state.nodes g part
  pub well_made : All (λ s. IsWellMade tree.system s.step) part.steps
  pub is_true : (root : ProofProblem) → slice_get (roots tree.question) g ≡ Some root → (part.goal ≡ g) × IsTruePart tree.system tree.budget root part
