-- Forks whose paths are followed in one pool.
use Rattle.std.specs.Prelude.{◌≡◌, ◌<◌, ◌↔◌, ℕ, Bool, true, false, List, Ok, Err, IsTrue, length}
use Rattle.std.proofs.Common.{subst}
use Rattle.trs_defs.specs.Tree.{Tree}
use Rattle.trs_defs.specs.System.{RewriteRule}
use Rattle.trs_defs.specs.Path.{PlacedRule}
use Rattle.nonjoin.specs.Apart.{AreApart}
use Rattle.nonjoin.specs.term_pool.Pooled.{Extends, StandsFor, tree_at}
use Rattle.nonjoin.proofs.term_pool.Extending.{same_tree_at}
use Rattle.nonjoin.proofs.term_pool.PoolTrees.{stands_at}
use Rattle.rewrite_core.specs.declared.checks.forks.ForkTest.TheVariants.{Apart}
use Rattle.rewrite_core.specs.declared.checks.refusals.StepRefused.TheVariants.{NotApart}
use Rattle.rewrite_core.specs.Check.{goes_on, holds, lacks}
use Rattle.rewrite_core.specs.PathCheck.{Runs}
use Rattle.cert_step.specs.ForkKind.{fork_conditions}
use Rattle.cert_step.proofs.ForkSound.{differ}

-- the id of the start is that of the start still, once more ids are there
pub still_start : (old new : List Tree) (id : ℕ) (start : Tree) → StandsFor old id start → Extends old new → tree_at new id ≡ start
still_start old new id start stands kept = stands_at new id start (kept.kept id start stands)

module _ (rules : List RewriteRule) (start : Tree) (left right : List PlacedRule) (middle end : List Tree) (u v : ℕ) (kept : Extends middle end) (there : u < length middle)
    (to_left : Runs rules start left 0 0 (Ok (tree_at middle u))) (to_right : Runs rules start right 0 1 (Ok (tree_at end v))) (yes_apart : Bool)
    (caps : IsTrue yes_apart ↔ AreApart rules (tree_at end u) (tree_at end v)) where
  ends : IsTrue yes_apart ↔ AreApart rules (tree_at middle u) (tree_at end v)
  ends = subst (λ t. IsTrue yes_apart ↔ AreApart rules t (tree_at end v)) (same_tree_at middle end kept u there) caps

  pub ends_apart : yes_apart ≡ true → fork_conditions rules start left right Apart (Ok tt)
  ends_apart e = goes_on (tree_at middle u) _ to_left (goes_on (tree_at end v) _ to_right (holds (ends.0 e)))

  pub ends_not_apart : yes_apart ≡ false → fork_conditions rules start left right Apart (Err NotApart)
  ends_not_apart e = goes_on (tree_at middle u) _ to_left (goes_on (tree_at end v) _ to_right (lacks (λ h. differ (ends.1 h) e)))
