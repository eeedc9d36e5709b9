-- What a step puts for its redex.
use Rattle.std.specs.Prelude.{◌≡◌, ◌≢◌, ℕ, List, Some, None, IsTrue}
use Rattle.trs_defs.specs.Tree.{Tree}
use Rattle.trs_defs.specs.Size.{within_limits}
use Rattle.trs_defs.specs.Position.{subterm_at, replaced_at}
use Rattle.trs_defs.specs.System.{RewriteRule}
use Rattle.trs_defs.specs.Path.{StepsAt}

-- the position is in the term, and rule number k makes what is there the contractum
pub record IsContraction (rules : List RewriteRule) (p : List ℕ) (k : ℕ) (t contractum : Tree) : Type 0 where
  pub there : subterm_at p t ≢ None
  pub steps : (u : Tree) → replaced_at p t contractum ≡ Some u → StepsAt rules p k t u

-- u is t with another subterm at the position, and keeps the limits
pub record IsPut (p : List ℕ) (t by u : Tree) : Type 0 where
  pub put : replaced_at p t by ≡ Some u
  pub limits : IsTrue (within_limits u)
