use Rattle.std.proofs.Common.{◌↔◌, drop}
use Rattle.path_lpo.specs.Table.{AscendsFrom}
use Rattle.path_lpo.proofs.entries.ascend.Given as goal

abbrev pub invariant-loop-place : goal.invariant-loop-place
invariant-loop-place l = AscendsFrom 0 l.places ↔ AscendsFrom l.last (drop l.place-index l.places)
