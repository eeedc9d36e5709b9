use Rattle.std.proofs.Common.{◌≡◌, nat_lt, take, map}
use Rattle.std.specs.Prelude.{filter}
use Rattle.path_text.specs.PathNames.{occurrences}
use Rattle.path_text.proofs.repeating.repeated_paths.Given as goal

abbrev pub invariant-loop-k : goal.invariant-loop-k
invariant-loop-k l = l.names ≡ filter (λ p. nat_lt 1 (occurrences p (map (λ q. q.now) l.paths))) (take l.k l.seen.known)
