-- The paths of few steps from a term: by length, then by the order of the path without its last step, then by the redexes.
use Rattle.std.specs.Prelude.{◌≡◌, ◌≤◌, ◌⊎◌, ℕ, List, [], ◌∷◌, length, take}
use Rattle.trs_defs.specs.Tree.{Tree}
use Rattle.trs_defs.specs.System.{RewriteRule}
use Rattle.term_pool.specs.Listed.{Listed}
use Rattle.term_pool.specs.Reach.{AreCandidates}

-- the term with no step
abbrev pub no_steps : Tree → Listed
no_steps t = record { term = t; path = [] }

-- The list begins with the empty path, and has after it each path that is one step longer than one of its own, up to 4 steps,
-- in order, with ends of at most 4,096 nodes; it has the first 256. Paths with equal ends stay. So many of its paths are looked
-- at: all, unless there are 256 before.
pub record IsPathList (rules : List RewriteRule) (t : Tree) (es : List Listed) : Type 0 where
  pub looked_at : ℕ
  pub candidates : List Listed
  pub longer : AreCandidates rules 4 4096 (take looked_at es) candidates
  pub listed : es ≡ take 256 (no_steps t ∷ candidates)
  pub all : (looked_at ≡ length es) ⊎ (256 ≤ length es)
