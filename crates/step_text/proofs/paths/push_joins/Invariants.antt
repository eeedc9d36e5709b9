use Rattle.std.proofs.Common.{◌≡◌, ◌++◌, drop, map}
use Rattle.path_text.specs.Paths.{paths_in}
use Rattle.peak_text.specs.TwoPaths.{paths_of_two}
use Rattle.step_text.proofs.paths.push_joins.Given as goal

abbrev pub invariant-loop-join : goal.invariant-loop-join
invariant-loop-join l =
    map (λ p. p.now) l.paths.items ++ paths_in paths_of_two (drop l.join-index l.joins) ≡ map (λ p. p.now) l.initial.paths.items ++ paths_in paths_of_two l.joins
