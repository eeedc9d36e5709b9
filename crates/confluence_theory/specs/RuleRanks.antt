-- Steps by the numbers of their rules, and peaks that close by the ranks of these rules. (Van Oostrom, Confluence by
-- decreasing diagrams, 2008: the rule labelling.)
use Rattle.std.specs.Prelude.{ℕ, List, map, slice_get, unwrap_or}
use Rattle.trs_defs.specs.Tree.{Tree}
use Rattle.trs_defs.specs.System.{RewriteRule, Numbered}
use Rattle.trs_defs.specs.Step.{StepBy}
use Rattle.confluence_theory.specs.LabelledPath.{LabelledPath}
use Rattle.confluence_theory.specs.RanksFit.{RanksFit}
use Rattle.confluence_theory.specs.Peak.{Peak}

-- a step of rule number k
abbrev pub NumberedStep : List RewriteRule → ℕ → Tree → Tree → Type 0
NumberedStep rules k = StepBy (Numbered rules k)

-- the rank of rule number k, 0 past the end of the list
abbrev pub rank_of : List ℕ → ℕ → ℕ
rank_of ranks k = unwrap_or (slice_get ranks k) 0

-- two paths, by the numbers of their rules, lead from the peak's left and from its right to one term, and their ranks fit
pub record IsDecreasing (rules : List RewriteRule) (ranks : List ℕ) (peak : Peak) : Type 0 where
  pub end : Tree
  pub left_path : List ℕ
  pub left_steps : LabelledPath (NumberedStep rules) left_path peak.left end
  pub left_fits : RanksFit (rank_of ranks peak.inner) (rank_of ranks peak.outer) (map (rank_of ranks) left_path)
  pub right_path : List ℕ
  pub right_steps : LabelledPath (NumberedStep rules) right_path peak.right end
  pub right_fits : RanksFit (rank_of ranks peak.outer) (rank_of ranks peak.inner) (map (rank_of ranks) right_path)
