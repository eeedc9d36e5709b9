-- Two paths from one term to two terms that never meet again.
use Rattle.std.specs.Prelude.{List, [], ◌∷◌}
use Rattle.trs_core.specs.View.{tree}
use Rattle.trs_defs.specs.Tree.{Tree}
use Rattle.trs_defs.specs.Path.{PlacedRule}
use Rattle.rewrite_core.specs.PlacedPeak.{PlacedPeak}
use Rattle.rewrite_core.specs.declared.checks.forks.ForkTest.{ForkTest}
use Rattle.conf_find.specs.declared.forks.ForkFound.{ForkFound}

-- a start, two paths from it, and how it is seen that their ends never meet
pub record Fork : Type 0 where
  pub start : Tree
  pub left : List PlacedRule
  pub right : List PlacedRule
  pub test : ForkTest

abbrev pub fork_of : ForkFound → Fork
fork_of found = record { start = tree found.start; left = found.left.items; right = found.right.items; test = found.test }

abbrev pub inner_step : PlacedPeak → PlacedRule
inner_step peak = record { place = peak.place; rule = peak.inner }

abbrev pub outer_step : PlacedPeak → PlacedRule
outer_step peak = record { place = []; rule = peak.outer }

-- from the top of the peak, by the inner step and then this path, and by the outer step and then that path
abbrev pub fork_from : PlacedPeak → List PlacedRule → List PlacedRule → ForkTest → Fork
fork_from peak left right test = record {
  start = peak.top;
  left = inner_step peak ∷ left;
  right = outer_step peak ∷ right;
  test = test;
}
