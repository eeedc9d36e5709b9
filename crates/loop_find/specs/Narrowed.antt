-- What narrowing gives.
use Rattle.std.specs.Prelude.{◌<◌, ◌≤◌, ◌⊎◌, List, [], ℕ, length}
use Rattle.trs_defs.specs.Tree.{Tree}
use Rattle.trs_defs.specs.Substitution.{apply}
use Rattle.trs_defs.specs.System.{RewriteRule}
use Rattle.trs_core.specs.SystemLimits.{HasSmallVariables}
use Rattle.trs_core.specs.View.{tree}
use Rattle.loop_find.specs.Closures.{IsNarrowing, IsSmallSide}
use Rattle.loop_find.specs.Flat.{tokens_of, AreTokensOf}
use Rattle.loop_find.specs.Written.{Named, put_in}
use Rattle.loop_find.specs.declared.closures.Sides.{Sides}
use Rattle.loop_find.specs.declared.tokens.SideTokens.{SideTokens}

-- the rule narrows the two terms at the place to these small ones, whose variables are below 65,536
pub record NarrowsToTrees (rule : RewriteRule) (place : List ℕ) (left right new_left new_right : Tree) : Type 0 where
  pub narrowing : IsNarrowing rule place left right new_left new_right
  pub left_small : IsSmallSide new_left
  pub right_small : IsSmallSide new_right
  pub left_variables : HasSmallVariables new_left
  pub right_variables : HasSmallVariables new_right

abbrev pub NarrowsToTerms : RewriteRule → List ℕ → Tree → Tree → Sides → Type 0
NarrowsToTerms rule place left right s = NarrowsToTrees rule place left right (tree s.left) (tree s.right)

-- the same, with tokens
pub record NarrowsTo (rule : RewriteRule) (place : List ℕ) (left right : Tree) (s : SideTokens) : Type 0 where
  pub new_left : Tree
  pub new_right : Tree
  pub tokens : AreTokensOf s new_left new_right
  pub narrows : NarrowsToTrees rule place left right new_left new_right

-- it narrows them to no small terms
pub record NarrowsNot (rule : RewriteRule) (place : List ℕ) (left right : Tree) : Type 0 where
  pub none : (l r : Tree) → IsNarrowing rule place left right l r → IsSmallSide l → IsSmallSide r → ⊥

-- the instances of the left side, and of the right side with another term at the place, were written with new numbers
pub record IsMade (σ : ℕ → Tree) (left right : Tree) (place : List ℕ) (by : Tree) (s : SideTokens) : Type 0 where
  pub first : List ℕ
  pub second : List ℕ
  pub left_named : Named [] first (tokens_of (apply σ left)) s.left.items
  pub right_named : Named first second (tokens_of (apply σ (put_in right place by))) s.right.items
  pub left_few : length s.left.items ≤ 256
  pub right_few : length s.right.items ≤ 256

-- one of them has too many nodes
abbrev pub IsLarge : (ℕ → Tree) → Tree → Tree → List ℕ → Tree → Type 0
IsLarge σ left right place by = (256 < length (tokens_of (apply σ left))) ⊎ (256 < length (tokens_of (apply σ (put_in right place by))))
