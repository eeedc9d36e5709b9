-- The proof of a goal that was won, and the report of one that was lost.
use Rattle.std.proofs.Common.{zero, suc}
use Rattle.std.specs.Prelude.{◌≡◌, ◌+◌, ◌<◌, ℕ, Bool, true, false, List, [], ◌∷◌, ◌++◌, map, length, Option, Some, None, slice_get}
use Rattle.trs_defs.specs.System.{System}
use Rattle.trs_defs.specs.Member.{In}
use Rattle.strategies.specs.cert_step.ProofProblem.{ProofProblem, problem_of, IsWellMadeProblem}
use Rattle.strategies.specs.cert_step.ProofStep.{ProofStep, ProofNodeStep, node_step_of}
use Rattle.strategies.specs.cert_step.Nodes.{Makes, open_node}
use Rattle.strategies.specs.cert_step.Nodes as proof
use Rattle.strategies.specs.declared.failure.Failure.{Failure}
use Rattle.strategies.specs.declared.failure.Failure.TheVariants.{NotThere, Spent}
use Rattle.strategies.specs.declared.strategy.Strategy.{Strategy}
use Rattle.strategies.specs.Kinds.{strategies_for}
use Rattle.strategies.specs.Conditions.{Finds, Fails}
use Rattle.tree_definitions.specs.declared.question.Question.{Question}
use Rattle.tree_definitions.specs.declared.report.GoalReport.{GoalReport}
use Rattle.tree_definitions.specs.Questions.{roots, goal_count}
use Rattle.tree_definitions.specs.States.{TreeNode, Decided}
use Rattle.tree_definitions.specs.Verdicts.{IsStuck}

abbrev pub numbers : ℕ → ℕ → List ℕ
numbers first zero = []
numbers first (suc count) = first ∷ numbers (first + 1) count

-- the children of a decided node
abbrev pub children_of : Decided → List ℕ
children_of d = numbers d.first d.count

-- Nodes are numbered anew in the order in which they are walked. Those that wait are walked in turn; the children of a
-- decided one wait behind the others.
pub data Walks (nodes : List TreeNode) : (waiting order : List ℕ) → Type 0 where
  ends : Walks nodes [] []
  stays : (n : ℕ) (node : TreeNode) (rest order : List ℕ) → slice_get nodes n ≡ Some node → node.decision ≡ None
      → Walks nodes rest order → Walks nodes (n ∷ rest) (n ∷ order)
  goes_on : (n : ℕ) (node : TreeNode) (d : Decided) (rest order : List ℕ) → slice_get nodes n ≡ Some node → node.decision ≡ Some d
      → Walks nodes (rest ++ children_of d) order → Walks nodes (n ∷ rest) (n ∷ order)

abbrev pub with_step : ℕ → Option Decided → List ProofNodeStep → List ProofNodeStep
with_step i None steps = steps
with_step i (Some d) steps = record { node = i; step = d.step } ∷ steps

abbrev pub decision_at : Option TreeNode → Option Decided
decision_at None = None
decision_at (Some node) = node.decision

-- the steps of the nodes in this order, which are numbered from i on
abbrev pub steps_from : List TreeNode → ℕ → List ℕ → List ProofNodeStep
steps_from nodes i [] = []
steps_from nodes i (n ∷ order) = with_step i (decision_at (slice_get nodes n)) (steps_from nodes (i + 1) order)

-- the steps of a goal, whose root is node g
pub record AreStepsOf (nodes : List TreeNode) (g : ℕ) (steps : List ProofNodeStep) : Type 0 where
  pub order : List ℕ
  pub walks : Walks nodes (g ∷ []) order
  pub steps_are : steps ≡ steps_from nodes 0 order

-- the step is the one that a strategy finds for a problem of its kind, within the budget
pub record IsFoundStep (system : System) (budget : ℕ) (step : ProofStep) : Type 0 where
  pub problem : ProofProblem
  pub strategy : Strategy
  pub well_made : IsWellMadeProblem system problem
  pub kind : In strategy (strategies_for problem)
  pub finds : Finds system budget strategy problem step

-- a part of a report: the goal, its steps, the node on which it is stuck, its problem, and how each of its strategies failed
pub record Part : Type 0 where
  pub goal : ℕ
  pub steps : List ProofNodeStep
  pub node : ℕ
  pub problem : ProofProblem
  pub failed : List (Strategy × Failure)

-- why a strategy failed, by whether its budget was spent
abbrev pub failure_by : Bool → Failure
failure_by false = NotThere
failure_by true = Spent

abbrev pub failed_of : Strategy × Bool → Strategy × Failure
failed_of f = (f.0, failure_by f.1)

abbrev pub part_of : GoalReport → Part
part_of r = record {
  goal = r.goal;
  steps = map node_step_of r.steps.items;
  node = r.node;
  problem = problem_of r.problem;
  failed = map failed_of r.failed.items;
}

-- each strategy, in order, fails for the reason that is said
abbrev pub AllFail : System → ℕ → ProofProblem → List Strategy → List (Strategy × Failure) → Type 0
AllFail system budget p [] [] = Unit {0}
AllFail system budget p (s ∷ ss) (f ∷ fs) = (f.0 ≡ s) × Fails system budget s p f.1 × AllFail system budget p ss fs
AllFail system budget p _ _ = ⊥

-- The steps are made, one after another, from the goal's root problem, and the named node is left open, with its problem and
-- no strategy that finds a step. No tree is needed to check it.
pub record IsTruePart (system : System) (budget : ℕ) (root : ProofProblem) (part : Part) : Type 0 where
  pub nodes : List proof.Node
  pub makes : Makes system (open_node root ∷ []) part.steps nodes
  pub there : slice_get nodes part.node ≡ Some (open_node part.problem)
  pub failed : AllFail system budget part.problem (strategies_for part.problem) part.failed

-- one true part for each goal, in order
pub record IsTrueReport (system : System) (question : Question) (budget : ℕ) (parts : List Part) : Type 0 where
  pub count : length parts ≡ goal_count question
  pub each : (g : ℕ) (root : ProofProblem) (part : Part) → slice_get (roots question) g ≡ Some root → slice_get parts g ≡ Some part
      → (part.goal ≡ g) × IsTruePart system budget root part

-- ---- the report of a tree

-- node n is stuck
pub record IsStuckAt (nodes : List TreeNode) (n : ℕ) : Type 0 where
  pub node : TreeNode
  pub there : slice_get nodes n ≡ Some node
  pub stuck : IsStuck node

-- the part is that of goal g: its steps in the order of the walk, and the stuck node with the least number in it
pub record IsPartOf (nodes : List TreeNode) (g : ℕ) (part : Part) : Type 0 where
  pub goal_is : part.goal ≡ g
  pub order : List ℕ
  pub walks : Walks nodes (g ∷ []) order
  pub steps_are : part.steps ≡ steps_from nodes 0 order
  pub n : ℕ
  pub there : slice_get order part.node ≡ Some n
  pub stuck : IsStuckAt nodes n
  pub problem_is : part.problem ≡ stuck.node.problem
  pub least : (k m : ℕ) → k < part.node → slice_get order k ≡ Some m → IsStuckAt nodes m → ⊥

-- the parts are those of the goals, in order
abbrev pub ArePartsOf : List TreeNode → List Part → Type 0
ArePartsOf nodes parts = (g : ℕ) (part : Part) → slice_get parts g ≡ Some part → IsPartOf nodes g part
