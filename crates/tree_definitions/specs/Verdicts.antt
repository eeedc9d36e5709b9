-- When a node is closed or stuck, a goal is won or lost, and which verdict stands.
use Rattle.std.specs.Prelude.{◌≡◌, ◌<◌, ◌⊎◌, ℕ, true, List, Option, Some, None, slice_get}
use Rattle.strategies.specs.declared.failure.Failure.{Failure}
use Rattle.tree_definitions.specs.declared.mark.Mark.{Mark}
use Rattle.tree_definitions.specs.declared.mark.Mark.TheVariants.{Failed}
use Rattle.tree_definitions.specs.States.{TreeNode, State, Decided, IsChild}

-- the node is decided, and each of its children is closed
pub data IsClosed (nodes : List TreeNode) : ℕ → Type 0 where
  closed : (n : ℕ) (node : TreeNode) (d : Decided) → slice_get nodes n ≡ Some node → node.decision ≡ Some d
      → ((c : ℕ) → IsChild d c → IsClosed nodes c) → IsClosed nodes n

abbrev pub HasFailed : Mark → Type 0
HasFailed mark = (failure : Failure) × (mark ≡ Failed failure)

-- the node is open, and each strategy of its problem has failed
pub record IsStuck (node : TreeNode) : Type 0 where
  pub is_open : node.decision ≡ None
  pub failed : (place : ℕ) (mark : Mark) → slice_get node.marks place ≡ Some mark → HasFailed mark

-- the root of goal g is node g
abbrev pub IsWon : List TreeNode → ℕ → Type 0
IsWon nodes g = IsClosed nodes g

-- one of the goal's nodes is stuck
pub record IsLost (nodes : List TreeNode) (g : ℕ) : Type 0 where
  pub n : ℕ
  pub node : TreeNode
  pub there : slice_get nodes n ≡ Some node
  pub goal : node.goal ≡ g
  pub stuck : IsStuck node

-- of this many goals each is lost
abbrev pub AllLost : ℕ → List TreeNode → Type 0
AllLost goals nodes = (g : ℕ) → g < goals → IsLost nodes g

-- a goal was won, or each is lost
abbrev pub HasVerdict : ℕ → State → Type 0
HasVerdict goals s = ((g : ℕ) × (s.winner ≡ Some g)) ⊎ AllLost goals s.nodes

-- nothing more is claimed
abbrev pub IsDone : ℕ → State → Type 0
IsDone goals s = HasVerdict goals s ⊎ (s.is_aborted ≡ true)

-- the goal that is won, where none was before
abbrev pub IsFirstWinner : ℕ → List TreeNode → Option ℕ → Type 0
IsFirstWinner goals nodes (Some g) = (g < goals) × IsWon nodes g
IsFirstWinner goals nodes None = (g : ℕ) → g < goals → IsWon nodes g → ⊥
