use Rattle.std.proofs.Common.{◌≡◌, ◌++◌, drop, map}
use Rattle.path_text.specs.Paths.{paths_in}
use Rattle.peak_text.specs.FourPaths.{paths_of_four}
use Rattle.step_text.proofs.paths.push_fours.Given as goal

abbrev pub invariant-loop-four : goal.invariant-loop-four
invariant-loop-four l =
    map (λ p. p.now) l.paths.items ++ paths_in paths_of_four (drop l.four-index l.fours) ≡ map (λ p. p.now) l.initial.paths.items ++ paths_in paths_of_four l.fours
