-- When the state of a proof tree is legal.
use Rattle.std.specs.Prelude.{◌≡◌, ◌+◌, ◌≤◌, ℕ, true, List, length, Some, slice_get}
use Rattle.trs_defs.specs.System.{System}
use Rattle.trs_defs.specs.Member.{In}
use Rattle.strategies.specs.cert_step.ProofProblem.{ProofProblem}
use Rattle.strategies.specs.cert_step.ProofStep.{IsWellMade}
use Rattle.strategies.specs.cert_step.Applies.{Applies}
use Rattle.strategies.specs.declared.failure.Failure.{Failure}
use Rattle.strategies.specs.declared.strategy.Strategy.{Strategy}
use Rattle.strategies.specs.Kinds.{strategies_for}
use Rattle.strategies.specs.Conditions.{Finds, Fails}
use Rattle.tree_definitions.specs.declared.mark.Mark.TheVariants.{Failed}
use Rattle.tree_definitions.specs.declared.ticket.Ticket.{Ticket}
use Rattle.tree_definitions.specs.States.{TreeNode, State, Decided, IsChild}

-- node n was made for this goal and problem
pub record Carries (nodes : List TreeNode) (n goal : ℕ) (p : ProofProblem) : Type 0 where
  pub node : TreeNode
  pub there : slice_get nodes n ≡ Some node
  pub goal_is : node.goal ≡ goal
  pub problem_is : node.problem ≡ p

-- one of the problem's strategies finds the step, it is well-made and applies to the problem, and the children carry what it
-- leaves
pub record IsLegallyDecided (system : System) (budget : ℕ) (nodes : List TreeNode) (node : TreeNode) (d : Decided) : Type 0 where
  pub strategy : Strategy
  pub kind : In strategy (strategies_for node.problem)
  pub finds : Finds system budget strategy node.problem d.step
  pub left : List ProofProblem
  pub applies : Applies system node.problem d.step left
  pub well_made : IsWellMade system d.step
  pub count : d.count ≡ length left
  pub children : (k : ℕ) (q : ProofProblem) → slice_get left k ≡ Some q → Carries nodes (d.first + k) node.goal q

-- node n is a child of node m
pub record IsChildOf (nodes : List TreeNode) (n m : ℕ) : Type 0 where
  pub parent : TreeNode
  pub d : Decided
  pub there : slice_get nodes m ≡ Some parent
  pub decided : parent.decision ≡ Some d
  pub child : IsChild d n

-- a ticket names a node that was made, and a strategy of the node's problem
pub record Names (nodes : List TreeNode) (t : Ticket) : Type 0 where
  pub node : TreeNode
  pub there : slice_get nodes t.node ≡ Some node
  pub strategy : Strategy
  pub kind : slice_get (strategies_for node.problem) t.place ≡ Some strategy

pub record IsLegal (goals : ℕ) (system : System) (budget : ℕ) (s : State) : Type 0 where
  pub decided : (n : ℕ) (node : TreeNode) (d : Decided) → slice_get s.nodes n ≡ Some node → node.decision ≡ Some d
      → IsLegallyDecided system budget s.nodes node d
  pub failed : (n place : ℕ) (node : TreeNode) (failure : Failure) → slice_get s.nodes n ≡ Some node → slice_get node.marks place ≡ Some (Failed failure)
      → (strategy : Strategy) × (slice_get (strategies_for node.problem) place ≡ Some strategy) × Fails system budget strategy node.problem failure
  -- each node but the roots is the child of one decided node, which is of its goal
  pub born : (n : ℕ) (node : TreeNode) → goals ≤ n → slice_get s.nodes n ≡ Some node
      → (m : ℕ) × (c : IsChildOf s.nodes n m) × (c.parent.goal ≡ node.goal)
  pub once : (n m k : ℕ) → IsChildOf s.nodes n m → IsChildOf s.nodes n k → m ≡ k
  pub named : (number : ℕ) (t : Ticket) → slice_get s.tickets number ≡ Some t → t.is_running ≡ true → Names s.nodes t
  -- no two running tickets name the same strategy of the same node
  pub alone : (i j : ℕ) (t u : Ticket) → slice_get s.tickets i ≡ Some t → slice_get s.tickets j ≡ Some u → t.is_running ≡ true
      → u.is_running ≡ true → t.node ≡ u.node → t.place ≡ u.place → i ≡ j
