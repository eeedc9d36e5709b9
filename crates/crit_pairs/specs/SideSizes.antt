-- The nodes of right sides, and of the instances that they have.
use Rattle.std.specs.Prelude.{◌≡◌, ◌-◌, ◌^◌, ℕ, ◌+◌, Bool, false, List, [], ◌++◌, Some, IsTrue, All, min, length, slice_get, sum_by}
use Rattle.trs_defs.specs.Tree.{Tree}
use Rattle.trs_defs.specs.Size.{size_of, within_limits}
use Rattle.trs_defs.specs.Substitution.{apply}
use Rattle.trs_defs.specs.System.{RewriteRule}
use Rattle.trs_defs.specs.Variable.{has_var}
use Rattle.term_pool.specs.LeftSides.{IsGround}
use Rattle.trs_unify.specs.Bindings.{stopped_size}
use Rattle.crit_pairs.specs.declared.side_sizes.SideSize.{SideSize}

-- the number of nodes of an instance: those of the side that are no variables, and those of the terms of its variables. It stands still
-- at the last u64
abbrev pub nodes_of_instance : (ℕ → Tree) → SideSize → ℕ
nodes_of_instance σ size = min (size.symbols + sum_by (λ v. size_of (σ v)) size.variables.items) (2 ^ 64 - 1)

-- each instance of the term has so many nodes. The listed variables occur in it, and there are some unless it is ground
pub record IsSizeOf (t : Tree) (size : SideSize) : Type 0 where
  pub instances : (σ : ℕ → Tree) → stopped_size (apply σ t) ≡ nodes_of_instance σ size
  pub occur : All (λ v. IsTrue (has_var v t)) size.variables.items
  pub ground : size.variables.items ≡ [] → IsGround t

-- for each rule the size of its right side
pub record AreSizes (rules : List RewriteRule) (sizes : List SideSize) : Type 0 where
  pub count : length sizes ≡ length rules
  pub each : (k : ℕ) (size : SideSize) (r : RewriteRule) → slice_get sizes k ≡ Some size → slice_get rules k ≡ Some r → IsSizeOf r.right size

-- These variables, of which more are listed now, and the nodes of instances are counted too.
pub record Counts (occurs : ℕ → Bool) (nodes : (ℕ → Tree) → ℕ) (old new : SideSize) : Type 0 where
  pub more : List ℕ
  pub grown : new.variables.items ≡ old.variables.items ++ more
  pub occur : All (λ v. IsTrue (occurs v)) more
  pub all : more ≡ [] → (v : ℕ) → occurs v ≡ false
  pub counted : (σ : ℕ → Tree) → min (new.symbols + sum_by (λ v. size_of (σ v)) more) (2 ^ 64 - 1) ≡ min (old.symbols + nodes σ) (2 ^ 64 - 1)

-- the nodes of the term are counted too
abbrev pub CountsTerm : Tree → SideSize → SideSize → Type 0
CountsTerm t = Counts (λ v. has_var v t) (λ σ. size_of (apply σ t))

-- the term keeps the limits on computed terms, and has so many nodes
abbrev pub IsSmallOf : Tree → ℕ → Type 0
IsSmallOf t n = IsTrue (within_limits t) × (n ≡ size_of t)
