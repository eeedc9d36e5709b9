-- Parallel steps that are kept: one more place with none, and one more step.
use Rattle.std.proofs.Common.{◌≡◌, ℕ, List, arith, [], ◌∷◌, ◌++◌, All, Option, Some, None, IfSome, slice_set, sym, subst}
use Rattle.std.specs.Global.{Vec}
use Rattle.std.proofs.lemmas.Option.{IfSome_then}
use Rattle.std.proofs.lemmas.List.Elements.{All-nil, All-cons, All-append, All-set, All-weaker}
use Rattle.trs_defs.specs.Tree.{Tree}
use Rattle.trs_defs.specs.System.{RewriteRule}
use Rattle.trs_defs.specs.Path.{PlacedRule, Follows}
use Rattle.term_pool.specs.Pooled.{Extends, tree_at}
use Rattle.term_pool.proofs.Extending.{same_tree_at}
use Rattle.join_find.specs.ParallelRow.{IsParallelStep}
use Rattle.join_find.specs.LastSteps.{CloseSides, AreLastSteps}
use Rattle.join_find.specs.declared.last_steps.KeptStep.{KeptStep}
use Rattle.join_find.specs.declared.last_steps.LastSteps.{LastSteps}

module _ (rules : List RewriteRule) (pool : List Tree) (old new : LastSteps) where
  abbrev closes : Option KeptStep → Type 0
  closes entry = IfSome entry (λ kept. IfSome kept.steps (λ steps. CloseSides rules pool kept.sides steps.items))

  pub one_more_place : new.by_left.items ≡ old.by_left.items ++ None ∷ [] → AreLastSteps rules pool old → AreLastSteps rules pool new
  one_more_place made before =
      let none : All closes (None ∷ []) = All-cons closes None [] tt (All-nil closes) in
      record { each = subst (All closes) (sym made) (All-append closes old.by_left.items (None ∷ []) before.each none) }

  pub one_more_step : (place : ℕ) (kept : KeptStep) → new.by_left.items ≡ slice_set old.by_left.items place (Some kept) → IfSome kept.steps (λ steps. CloseSides rules pool kept.sides steps.items)
      → AreLastSteps rules pool old → AreLastSteps rules pool new
  one_more_step place kept made here before = record { each = subst (All closes) (sym made) (All-set closes old.by_left.items place (Some kept) here before.each) }

-- a copy of steps closes what they close
pub copy_closes : (rules : List RewriteRule) (pool : List Tree) (sides : ℕ × ℕ) (steps : List PlacedRule) (copy : Option (Vec PlacedRule)) → IfSome copy (λ kept. kept.items ≡ steps)
    → CloseSides rules pool sides steps → IfSome copy (λ kept. CloseSides rules pool sides kept.items)
copy_closes rules pool sides steps copy same closes = IfSome_then copy same (λ kept is. subst (CloseSides rules pool sides) (sym is) closes)

-- the pool has grown
closes_still : (rules : List RewriteRule) (a b : List Tree) (ids : ℕ × ℕ) (steps : List PlacedRule) → Extends a b → CloseSides rules a ids steps → CloseSides rules b ids steps
closes_still rules a b ids steps extends h =
    let left = h.left in
    let right = h.right in
    let same_left = sym (same_tree_at a b extends ids.0 left) in
    let same_right = sym (same_tree_at a b extends ids.1 right) in
    let P : Tree → Tree → Type 0 = λ s t. IsParallelStep rules s t steps in
    let F : Tree → Tree → Type 0 = λ s t. Follows rules steps s t in
    record {
      left = omega (arith, extends.longer, left);
      right = omega (arith, extends.longer, right);
      parallel = subst (P (tree_at b ids.0)) same_right (subst (λ s. P s (tree_at a ids.1)) same_left h.parallel);
      follows = subst (F (tree_at b ids.0)) same_right (subst (λ s. F s (tree_at a ids.1)) same_left h.follows);
    }

pub last_still : (rules : List RewriteRule) (a b : List Tree) (last : LastSteps) → Extends a b → AreLastSteps rules a last → AreLastSteps rules b last
last_still rules a b last extends h =
    let C : List Tree → KeptStep → Type 0 = λ pool kept. IfSome kept.steps (λ steps. CloseSides rules pool kept.sides steps.items) in
    record {
      each = All-weaker (λ (entry : Option KeptStep). IfSome entry (C a)) (λ (entry : Option KeptStep). IfSome entry (C b))
          (λ entry k. IfSome_then entry k (λ kept c. IfSome_then kept.steps c (λ steps. closes_still rules a b kept.sides steps.items extends))) last.by_left.items h.each;
    }
