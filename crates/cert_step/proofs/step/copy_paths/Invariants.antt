use Rattle.std.proofs.Common.{◌≡◌, take}
use Rattle.rule_label.specs.closed_pairs.ParallelClosed.{paths_of}
use Rattle.cert_step.proofs.step.copy_paths.Given as goal

abbrev pub invariant-loop-path : goal.invariant-loop-path
invariant-loop-path l = paths_of l.copies.items ≡ paths_of (take l.path-index l.paths)
