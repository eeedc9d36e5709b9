-- Paths of steps below a position.
use Rattle.std.specs.Prelude.{ℕ, List, ◌++◌, map}
use Rattle.trs_defs.specs.Path.{PlacedRule}

-- the step, with the position in front of its place
abbrev pub shifted_step : List ℕ → PlacedRule → PlacedRule
shifted_step by s = record { place = by ++ s.place; rule = s.rule }

-- the steps in order, each with the position in front of its place
abbrev pub shifted_path : List ℕ → List PlacedRule → List PlacedRule
shifted_path by path = map (shifted_step by) path
