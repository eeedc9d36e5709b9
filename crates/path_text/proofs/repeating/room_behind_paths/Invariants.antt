use Rattle.std.proofs.Common.{◌≡◌, drop, map}
use Rattle.path_text.specs.Sharing.{paths_weight}
use Rattle.path_text.specs.Parts.{room_left}
use Rattle.path_text.proofs.repeating.room_behind_paths.Given as goal

abbrev pub invariant-loop-path : goal.invariant-loop-path
invariant-loop-path l =
    room_left l.room (paths_weight (map (λ p. p.now) (drop l.path-index l.paths))) ≡ room_left l.fn.room (paths_weight (map (λ p. p.now) l.paths))
