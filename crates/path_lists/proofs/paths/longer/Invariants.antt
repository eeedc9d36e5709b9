use Rattle.std.proofs.Common.{◌≡◌, take}
use Rattle.path_lists.proofs.paths.longer.Given as goal

abbrev pub invariant-loop-earlier : goal.invariant-loop-earlier
invariant-loop-earlier l = l.longer.items ≡ take l.earlier-index l.path
