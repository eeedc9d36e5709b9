-- Nodes whose children have greater numbers, and their steps one by one.
use Rattle.std.specs.Prelude.{◌≡◌, ◌<◌, ℕ, List, [], ◌∷◌, length, Option, Some, None, slice_get}
use Rattle.tree_definitions.specs.cert_step.ProofStep.{ProofStep, ProofNodeStep}
use Rattle.tree_state.specs.declared.node.Node.{Node}
use Rattle.tree_state.specs.declared.node.Decision.{Decision}
use Rattle.tree_definitions.specs.States.{TreeNode, Decided, IsChild}
use Rattle.tree_definitions.specs.Reports.{numbers, decision_at}

abbrev pub own_kids : Option Decision → List ℕ
own_kids None = []
own_kids (Some d) = numbers d.first d.count

-- the children of each node were made, and have greater numbers
abbrev pub IsAscending : List Node → Type 0
IsAscending nodes = (n : ℕ) (node : Node) → slice_get nodes n ≡ Some node → (k c : ℕ) → slice_get (own_kids node.decision) k ≡ Some c → (n < c) × (c < length nodes)

abbrev pub AreAscending : List TreeNode → Type 0
AreAscending nodes = (n : ℕ) (node : TreeNode) (d : Decided) → slice_get nodes n ≡ Some node → node.decision ≡ Some d
    → (c : ℕ) → IsChild d c → (n < c) × (c < length nodes)

abbrev pub step_of_decision : Option Decided → Option ProofStep
step_of_decision None = None
step_of_decision (Some d) = Some d.step

-- the step of node number n, if it is decided
abbrev pub step_at : List TreeNode → ℕ → Option ProofStep
step_at nodes n = step_of_decision (decision_at (slice_get nodes n))

abbrev pub step_list : ℕ → Option ProofStep → List ProofNodeStep
step_list i None = []
step_list i (Some step) = record { node = i; step = step } ∷ []
