-- Parallel steps that are kept for later peaks with the same sides.
use Rattle.std.specs.Prelude.{◌<◌, ℕ, List, All, IfSome, length}
use Rattle.trs_defs.specs.Tree.{Tree}
use Rattle.trs_defs.specs.System.{RewriteRule}
use Rattle.trs_defs.specs.Path.{PlacedRule, Follows}
use Rattle.term_pool.specs.Pooled.{tree_at}
use Rattle.join_find.specs.ParallelRow.{IsParallelStep}
use Rattle.join_find.specs.declared.last_steps.LastSteps.{LastSteps}

-- the sides with these ids are there, and the steps are the parallel step from one to the other; its places, run in order, pass no limit
pub record CloseSides (rules : List RewriteRule) (pool : List Tree) (ids : ℕ × ℕ) (steps : List PlacedRule) : Type 0 where
  pub left : ids.0 < length pool
  pub right : ids.1 < length pool
  pub parallel : IsParallelStep rules (tree_at pool ids.0) (tree_at pool ids.1) steps
  pub follows : Follows rules steps (tree_at pool ids.0) (tree_at pool ids.1)

-- no steps do
abbrev pub NoneClose : List RewriteRule → List Tree → ℕ × ℕ → Type 0
NoneClose rules pool ids = (steps : List PlacedRule) → CloseSides rules pool ids steps → ⊥

-- all steps that are kept close the sides that they are kept for
pub record AreLastSteps (rules : List RewriteRule) (pool : List Tree) (last : LastSteps) : Type 0 where
  pub each : All (λ entry. IfSome entry (λ kept. IfSome kept.steps (λ steps. CloseSides rules pool kept.sides steps.items))) last.by_left.items
