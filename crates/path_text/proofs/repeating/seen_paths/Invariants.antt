use Rattle.std.proofs.Common.{◌≡◌, ◌++◌, List, [], drop, map}
use Rattle.trs_defs.specs.Path.{PlacedRule}
use Rattle.path_text.specs.PathNames.{distinct_behind}
use Rattle.path_text.specs.Repeating.{AreSeen}
use Rattle.path_text.proofs.repeating.seen_paths.Given as goal

-- the paths that were looked at are the first ones
abbrev pub invariant-loop-path : goal.invariant-loop-path
invariant-loop-path l =
    (done : List (List PlacedRule)) × (done ++ map (λ p. p.now) (drop l.path-index l.paths) ≡ map (λ p. p.now) l.paths)
    × (l.known ≡ distinct_behind [] done) × AreSeen l.known l.again done
